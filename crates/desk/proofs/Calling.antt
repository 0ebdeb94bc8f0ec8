-- What opening, accepting and asking have shown, on plain values.
use borrow.Rule.Slice.PartMut.{put_mid}
use Prim.Native.Nat.{ℕ, zero, suc, ◌-◌, ◌≤◌, ◌<◌}
use native.Mathlib.Omega.{arith}
use native.Mathlib.Decide.{ℕ_discrete}
use mathlib.Core.Path.{◌≡◌, refl, sym, ap, ap₂, ◌∙◌, subst}
use mathlib.Core.Logic.{◌≢◌}
use mathlib.Core.Bool.{Bool, true, false, cond, false≢true}
use mathlib.Core.Option.{Option, none, some}
use mathlib.Core.List.{List, [], ◌∷◌, ◌++◌}
use Rattle.std.specs.Array.{AllOfLen}
use lib.ListN.{length, drop, get_or, replicate}
use lib.Seq.{drop-drop}
use Rattle.std.proofs.lemmas.List.{drop-replicate}
use Rattle.meaning.specs.Bytes.{Bytes}
use Rattle.meaning.specs.Algebra.{bool}
use Rattle.meaning.specs.Reply.{Reply}
use Rattle.meaning.proofs.Register.{and_both}
use Rattle.meaning.specs.Solve.{Values, solved, solve, no_values, waiting, said, is_heard, all_heard, outcome}
use Rattle.reply.specs.Read.{Is}
use Rattle.reply.specs.inner.Decode.{decoded}
use Rattle.reply.specs.inner.Fields.{HeadIs}
use Rattle.reply.specs.declared.Head.{Head}
use Rattle.reply.proofs.Round.{is_the}
use Rattle.meaning.specs.Refused.{refused, passed, granted}
use Rattle.whole.specs.Whole.{OpenRules, Judging, Heard, part_of, Opened}
use Rattle.whole.specs.inner.Steps.{Judged, number_of as unfit_code}
use Rattle.solving.specs.inner.Values.{AllHeard, kept, answer_of}
use Rattle.desk.specs.Changed.{fresh_record, opened_as, noted, put_at}
use Rattle.desk.specs.Numbers.{number_of, refusal_of}
use Rattle.desk.specs.declared.Refusal.{Refusal}
use Rattle.desk.specs.declared.Refusal.TheVariants.{BadLayout, OldNumber, NoneOpen, NotAReply, OtherQuestion, Misfit, AlreadyHeard, StoreFull, NotWhole}
use Rattle.whole.specs.declared.Unfit.{Unfit}
use Rattle.whole.specs.declared.Unfit.TheVariants as Unfits
use Rattle.desk.specs.Calls.{Opens, Room, Why, Accepts, Held, said_of, AskRefusal, Asks}
use Rattle.whole.specs.declared.Question.{Question}
use Rattle.whole.specs.declared.Record.{Record}
use Rattle.whole.proofs.Pieces.{fragment_is, heard_or_not, judged_free, own_reply, was_open}

-- ---- a fresh record
pub zeros : (xs : List ℕ) (n : ℕ) → AllOfLen (λ x. x ≡ 0) xs n → xs ≡ replicate n 0
zeros xs n a = go xs n a.long (λ i l. a.at i 0 l)
  where
    go : (xs : List ℕ) (n : ℕ) → length xs ≡ n → ((i : ℕ) → i < n → get_or xs i 0 ≡ 0) → xs ≡ replicate n 0
    go [] zero e h = refl
    go [] (suc n) e h = absurd (omega arith)
    go (x ∷ xs) zero e h = absurd (omega arith)
    go (x ∷ xs) (suc n) e h = ap₂ ◌∷◌ (h 0 (omega arith)) (go xs n (omega arith) (λ i l. h (suc i) (omega arith)))

pub fresh_is : (last used number entries parts : ℕ) (layout heard place size : List ℕ) → last ≡ 0 → used ≡ 0 → number ≡ 0 → entries ≡ 0 → parts ≡ 0
    → layout ≡ replicate 32 0 → heard ≡ replicate 32 0 → place ≡ replicate 32 0 → size ≡ replicate 32 0
    → record { last = last; used = used; question = record { number = number; entries = entries; parts = parts; layout = layout; heard = heard; place = place; size = size } } ≡ fresh_record
fresh_is a b c d e f g h i p q r s t u v w x = rw (p, q, r, s, t, u, v, w, x) refl

-- ---- opening
pub opened_as_lem : (layout l : Bytes) (entries number : ℕ) → l ≡ layout → record { last = number; used = 0; question = record { number = number; entries = entries; parts = length layout; layout = l ++ drop (length layout) (replicate 32 0); heard = replicate 32 0; place = replicate 32 0; size = replicate 32 0 } } ≡ opened_as layout entries number
opened_as_lem layout l entries number e = rw (e, drop-replicate {X = ℕ} (length layout) 32 0) refl

pub rules_of : {layout : Bytes} {m n : ℕ} → OpenRules layout m → m ≡ n → OpenRules layout n
rules_of {layout} k e = subst (OpenRules layout) e k

module _ (d : Record) (layout : Bytes) (entries number : ℕ) where
  pub opens_10 : (OpenRules layout entries → ⊥) → Opens d layout entries number 10 d
  opens_10 h = record { why = refused h; refused = λ n. refl; opened = λ e. absurd (omega arith) }

  pub opens_11 : OpenRules layout entries → number ≤ d.last → Opens d layout entries number 11 d
  opens_11 k h = record { why = passed k (refused (λ l. omega arith)); refused = λ n. refl; opened = λ e. absurd (omega arith) }

  pub opens : (after : Record) → OpenRules layout entries → d.last < number → after ≡ opened_as layout entries number → Opens d layout entries number 0 after
  opens after k h e = record { why = passed k (passed h granted); refused = λ n. absurd (n refl); opened = λ z. e }

-- ---- numbers
pub number_some : (e : Refusal) → number_of e ≢ 0
number_some BadLayout z = absurd (omega arith)
number_some OldNumber z = absurd (omega arith)
number_some NoneOpen z = absurd (omega arith)
number_some NotAReply z = absurd (omega arith)
number_some OtherQuestion z = absurd (omega arith)
number_some Misfit z = absurd (omega arith)
number_some AlreadyHeard z = absurd (omega arith)
number_some StoreFull z = absurd (omega arith)
number_some NotWhole z = absurd (omega arith)

pub unfit_number : (u : Unfit) → unfit_code u ≡ number_of (refusal_of u)
unfit_number Unfits.NotAReply = refl
unfit_number Unfits.OtherQuestion = refl
unfit_number Unfits.Misfit = refl

-- ---- accepting
module _ {q : Question} {s : Bytes} {rest : ℕ → Type 0} where
  pub judging_refused : {c : ℕ} → Judged q s c → c ≢ 0 → Judging q s rest c
  judging_refused (refused h) n = refused h
  judging_refused (passed t (refused h)) n = passed t (refused h)
  judging_refused (passed t (passed u (refused h))) n = passed t (passed u (refused h))
  judging_refused (passed t (passed u (passed v granted))) n = absurd (n refl)

  pub judging_passed : {c x : ℕ} → Judged q s c → c ≡ 0 → rest x → Judging q s rest x
  judging_passed (refused h) e r = absurd (omega arith)
  judging_passed (passed t (refused h)) e r = absurd (omega arith)
  judging_passed (passed t (passed u (refused h))) e r = absurd (omega arith)
  judging_passed (passed t (passed u (passed v granted))) e r = passed t (passed u (passed v r))

module _ (q : Question) (s : Bytes) (h : Head) (H : HeadIs s h) where
  pub not_heard : (Heard q h.fragment → ⊥) → (r : Reply) → Is 12 s r → Heard q r.fragment → ⊥
  not_heard n r i k = n (subst (λ f. Heard q f) (sym (fragment_is q s r i h H)) k)

  pub heard_before : {c : ℕ} → Judged q s c → c ≡ 0 → Heard q h.fragment → ((r : Reply) → Is 12 s r → Heard q r.fragment → ⊥) → ⊥
  heard_before j e k f = let t = judged_free j e in f t.0 t.1.is (subst (λ g. Heard q g) (fragment_is q s t.0 t.1.is h H) k)

pub put_back : (u k : ℕ) (xs rs ys : List ℕ) → k ≡ length rs → ys ≡ rs → put_mid u k xs ys ≡ put_at u rs xs
put_back u k xs rs ys f e = rw (e, f, drop-drop (length rs) u xs) refl

pub accepts : (d : Record) (store s : Bytes) (f : ℕ) (a : Record) (after : Bytes) → Why d store s 0 → ((r : Reply) → Is 12 s r → f ≡ r.fragment)
    → a ≡ noted d f (length s) → after ≡ put_at d.used s store → Accepts d store s 0 a after
accepts d store s f a after w e ea es = record { why = w; refused = λ k. absurd (k refl); taken = λ z r i. (ea ∙ ap (λ g. noted d g (length s)) (e r i), es) }

-- ---- asking
-- the replies held, by computing
abbrev pub held_if : {X : Type 0} → Dec X → Reply → Option Reply
held_if (yes h) r = some r
held_if (no n) r = none

abbrev pub held_of : Question → Bytes → ℕ → Option Reply
held_of q store f = held_if (heard_or_not q f) (decoded 12 (part_of q store f))

module _ (q : Question) (store : Bytes) where
  held_none : (f : ℕ) → (Heard q f → ⊥) → held_of q store f ≡ none
  held_none f n = go (heard_or_not q f)
    where
      go : (d : Dec (Heard q f)) → held_if d (decoded 12 (part_of q store f)) ≡ none
      go (yes h) = absurd (n h)
      go (no m) = refl

  held_some : (f : ℕ) → Heard q f → held_of q store f ≡ kept q store f
  held_some f h = go (heard_or_not q f)
    where
      go : (d : Dec (Heard q f)) → held_if d (decoded 12 (part_of q store f)) ≡ some (decoded 12 (part_of q store f))
      go (yes h) = refl
      go (no n) = absurd (n h)

  heard_of : (f : ℕ) → is_heard (held_of q store f) ≡ true → Heard q f
  heard_of f e = go (heard_or_not q f)
    where
      go : Dec (Heard q f) → Heard q f
      go (yes h) = h
      go (no n) = absurd (false≢true (sym (ap is_heard (held_none f n)) ∙ e))

  each_heard : (k : ℕ) → all_heard (held_of q store) k ≡ true → (f : ℕ) → f < k → is_heard (held_of q store f) ≡ true
  unfolding all_heard
  each_heard zero h f l = absurd (omega arith)
  each_heard (suc k) h f l = go (ℕ_discrete f k) (and_both (is_heard (held_of q store k)) (all_heard (held_of q store) k) h) (each_heard k)
    where
      go : Dec (f ≡ k) → (is_heard (held_of q store k) ≡ true) × (all_heard (held_of q store) k ≡ true) → (all_heard (held_of q store) k ≡ true → (f : ℕ) → f < k → is_heard (held_of q store f) ≡ true) → is_heard (held_of q store f) ≡ true
      go (yes e) p r = rw e p.0
      go (no e) p r = r p.1 f (omega arith)

  all_heard_lem : (k : ℕ) → ((f : ℕ) → f < k → is_heard (held_of q store f) ≡ true) → all_heard (held_of q store) k ≡ true
  unfolding all_heard
  all_heard_lem zero h = refl
  all_heard_lem (suc k) h = rw (h k (omega arith), all_heard_lem k (λ f l. h f (omega arith))) refl

  -- V of fragment 0's last entry
  abbrev top : Bool
  top = (solve bool q.entries (held_of q store) q.parts (no_values bool q.entries)).v 0 (q.entries - 1)

  -- what the desk says
  abbrev pub Said : ℕ → Type 0
  Said answer = answer ≡ said_of (outcome q.entries q.parts (held_of q store))

  pub says_waiting : (AllHeard q → ⊥) → Said 0
  unfolding outcome
  says_waiting n = go (all_heard (held_of q store) q.parts) refl
    where
      go : (b : Bool) → all_heard (held_of q store) q.parts ≡ b → 0 ≡ said_of (cond b (said top) waiting)
      go true e = absurd (n (λ f l. heard_of f (each_heard q.parts e f l)))
      go false e = refl

  module _ (used : ℕ) (o : Opened q used store) where
    pub held_are : Held q store (held_of q store)
    held_are = record { unheard = held_none; heard = λ f h. (decoded 12 (part_of q store f), held_some f h, is f h) }
      where
        is : (f : ℕ) → Heard q f → Is 12 (part_of q store f) (decoded 12 (part_of q store f))
        is f h = let w = own_reply (o.laid.replies f h) in subst (Is 12 (part_of q store f)) (is_the 12 (part_of q store f) w.reply w.free.is) w.free.is

  module _ (h : AllHeard q) where
    solve_held : (k : ℕ) → k ≤ q.parts → (S : Values Bool) → solve bool q.entries (held_of q store) k S ≡ solve bool q.entries (kept q store) k S
    unfolding solve
    solve_held zero l S = refl
    solve_held (suc k) l S =
        solve_held k (omega arith) (solved bool q.entries (held_of q store k) k S)
        ∙ ap (λ o. solve bool q.entries (kept q store) k (solved bool q.entries o k S)) (held_some k (h k l))

    answer_is : answer_of q store ≡ top
    unfolding answer_of
    answer_is = ap (λ (S : Values Bool). S.v 0 (q.entries - 1)) (sym (solve_held q.parts (omega arith) (no_values bool q.entries)))

    outcome_is : outcome q.entries q.parts (held_of q store) ≡ said top
    unfolding outcome
    outcome_is = ap (λ b. cond b (said top) waiting) (all_heard_lem q.parts (λ f l. ap is_heard (held_some f (h f l))))

    pub answers : (b : Bool) → b ≡ answer_of q store → Said (said_of (said b))
    answers b e = ap said_of (ap said (e ∙ answer_is) ∙ sym outcome_is)

module _ {d : Record} {store : Bytes} where
  pub ready_open : {c : ℕ} → AskRefusal d store c → c ≡ 0 → Opened d.question d.used store
  ready_open (refused h) e = absurd (omega arith)
  ready_open (passed w (refused h)) e = absurd (omega arith)
  ready_open (passed w (passed n granted)) e = was_open d store w n

  -- what is refused here is refused by accepting; what is not, as what comes next says
  pub why_early : {s : Bytes} {c : ℕ} → AskRefusal d store c → c ≢ 0 → Why d store s c
  why_early (refused h) n = refused h
  why_early (passed w (refused h)) n = passed w (refused h)
  why_early (passed w (passed m granted)) n = absurd (n refl)

  pub why_then : {s : Bytes} {c x : ℕ} → AskRefusal d store c → c ≡ 0 → Judging d.question s (Room d store s) x → Why d store s x
  why_then (refused h) e j = absurd (omega arith)
  why_then (passed w (refused h)) e j = absurd (omega arith)
  why_then (passed w (passed n granted)) e j = passed w (passed n j)

  pub asks : {c answer : ℕ} → AskRefusal d store c → c ≡ 0 → Said d.question store answer → Asks d store c answer
  asks w z e = record { why = w; refused = λ n. absurd (n z); answered = λ k. (held_of d.question store, held_are d.question store d.used (ready_open w z), e) }
