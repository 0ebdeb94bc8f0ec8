-- The calls keep the desk ready: what is held is what was handed in.
use Prim.Native.Nat.{ℕ, ◌-◌, ◌<◌}
use native.Mathlib.Omega.{arith}
use native.Mathlib.Decide.{ℕ_discrete}
use mathlib.Core.Path.{◌≡◌, refl, sym, ap, ◌∙◌, subst}
use mathlib.Core.Bool.{Bool, true, false, not, true≢false}
use mathlib.Core.Logic.{◌≢◌, ◌⊎◌, inl, inr}
use mathlib.Core.List.Memᴰ
use mathlib.Core.List.{List, [], ◌∷◌, Memᴰ}
use lib.ListN.{length, get_or, replicate, length-set, length-replicate, get_or-replicate}
use lib.Seq.{take-append_seam}
use lib.Dec.{eqb}
use Rattle.meaning.specs.Bytes.{Bytes}
use Rattle.meaning.specs.Reply.{Reply}
use Rattle.std.proofs.lemmas.Bool.{ne_eqb}
use Rattle.reply.specs.Write.{write}
use Rattle.reply.specs.Read.{Is}
use Rattle.whole.specs.Whole.{Whole, Opened, Heard, part_of}
use Rattle.desk.specs.Changed.{opened_as, noted, put_at}
use Rattle.desk.specs.Calls.{Opens, Accepts, Why}
use Rattle.desk.proofs.Unique.{one_why, Passed, passed}
use Rattle.desk.proofs.Keeping as Keeping
use Rattle.whole.specs.declared.Question.{Question}
use Rattle.whole.specs.declared.Record.{Record}
use Rattle.register.specs.Calls.{Event, Calls, HandedIn}
use Rattle.register.specs.Round.{Round}
use Rattle.register.proofs.Laid.{reply_of, bytes_of, Asked, LaidRoom, LaidHonest, LaidFaithful}
use Rattle.register.proofs.Sums.{more, empty}
use Rattle.register.proofs.Verdicts.{heard_bit, Ready, size_of, many, is_laid, same_reply, laid_fragment, told, takes, repeats, no_reply, foreign, waits_for, answers}

abbrev pub is_handed : Event → Bool
is_handed (Event.handed s n) = true
is_handed (Event.asked n x) = false
is_handed (Event.opening layout entries number n) = false

abbrev pub handed_bytes : Event → Bytes
handed_bytes (Event.handed s n) = s
handed_bytes (Event.asked n x) = []
handed_bytes (Event.opening layout entries number n) = []

open_question : {d : Record} {store : Bytes} → d.question.number ≢ 0 → Whole d store → Opened d.question d.used store
open_question n (Whole.closed z l u h) = absurd (n z)
open_question n (Whole.opened m o) = o

-- ---- what was handed in, call by call
module _ (X : Type 0) (t : Bytes) where
  nothing_handed : X ⊎ HandedIn t [] → X
  nothing_handed (inl k) = k
  nothing_handed (inr k) = absurd (Memᴰ.not-nil k.1)

  one_handed : {s : Bytes} {n : ℕ} {l : List Event} → X ⊎ HandedIn t (Event.handed s n ∷ l) → (X ⊎ (s ≡ t)) ⊎ HandedIn t l
  one_handed (inl k) = inl (inl k)
  one_handed (inr (m, Memᴰ.head e)) = inl (inr (sym (ap handed_bytes e)))
  one_handed (inr (m, Memᴰ.tail k)) = inr (m, k)

  handed_one : {s : Bytes} {n : ℕ} {l : List Event} → (X ⊎ (s ≡ t)) ⊎ HandedIn t l → X ⊎ HandedIn t (Event.handed s n ∷ l)
  handed_one (inl (inl k)) = inl k
  handed_one {s} {n} (inl (inr e)) = inr (n, Memᴰ.head (ap (λ b. Event.handed b n) (sym e)))
  handed_one (inr k) = inr (k.0, Memᴰ.tail k.1)

  -- a call that hands in nothing
  module _ {c : Event} {l : List Event} (mute : is_handed c ≡ false) where
    mute_later : X ⊎ HandedIn t (c ∷ l) → X ⊎ HandedIn t l
    mute_later (inl k) = inl k
    mute_later (inr (m, Memᴰ.head e)) = absurd (true≢false (ap is_handed e ∙ mute))
    mute_later (inr (m, Memᴰ.tail k)) = inr (m, k)

    later_mute : X ⊎ HandedIn t l → X ⊎ HandedIn t (c ∷ l)
    later_mute (inl k) = inl k
    later_mute (inr k) = inr (k.0, Memᴰ.tail k.1)

none_before : {X : Type 0} → ⊥ ⊎ X → X
none_before (inl k) = absurd k
none_before (inr k) = k

module _ (R : Round) (a : Asked R) where
  -- the parts handed in, said otherwise
  relabel : {H K : ℕ → Type 0} {d : Record} {store : Bytes} → ((f : ℕ) → f < many R a → K f → H f) → ((f : ℕ) → f < many R a → H f → K f)
      → Ready R a H d store → Ready R a K d store
  relabel back forth w = record {
    number_is = w.number_is;
    entries_is = w.entries_is;
    parts_is = w.parts_is;
    layout_is = w.layout_is;
    sizes = w.sizes;
    opened = w.opened;
    heard = λ f h k. w.heard f h (back f h k);
    only = λ f h. ((w.only f h).0, forth f (w.only f h).0 (w.only f h).1, (w.only f h).2);
    used_is = w.used_is;
    room = w.room;
  }

  -- ---- opening
  abbrev fresh : Record
  fresh = opened_as R.register.layout R.list.count R.number

  unheard : {X : Type 0} (f : ℕ) → Heard fresh.question f → X
  unheard f h = absurd (h.1 (get_or-replicate 32 f 0 0 h.0))

  fresh_ready : (old : Record) (store : Bytes) → Opens old R.register.layout R.list.count R.number 0 fresh → LaidRoom R store → Ready R a (λ f. ⊥) fresh store
  fresh_ready old store o r = record {
    number_is = refl;
    entries_is = refl;
    parts_is = refl;
    layout_is = take-append_seam R.register.layout (replicate (32 - length R.register.layout) 0);
    sizes = record { heard_all = length-replicate {A = ℕ} 32 0; place_all = length-replicate {A = ℕ} 32 0; size_all = length-replicate {A = ℕ} 32 0 };
    opened = open_question (λ z. omega (arith, a.some_number, z)) (Keeping.opening_whole old R.register.layout R.list.count R.number fresh o store);
    heard = λ f h k. absurd k;
    only = λ f h. unheard f h;
    used_is = sym (empty (size_of R a) (heard_bit fresh.question) (many R a) (λ f h. ap (λ x. not (eqb x 0)) (get_or-replicate 32 f 0 0 (omega (arith, h, a.cut.layout.most)))));
    room = r;
  }

  -- ---- a reply taken
  module _ {H : ℕ → Type 0} {d : Record} {store s : Bytes} (w : Ready R a H d store) (p : Passed d store s) where
    abbrev f : ℕ
    f = p.reply.fragment

    abbrev q : Question
    q = d.question

    abbrev q' : Question
    q' = (noted d f (length s)).question

    abbrev store' : Bytes
    store' = put_at d.used s store

    off : heard_bit q f ≡ false
    off = elim (ℕ_discrete (get_or q.heard f 0) 0) [ yes z ↦ ap (λ x. not (eqb x 0)) z | no n ↦ absurd (p.unheard (Keeping.low d store s w.sizes p w.opened, n)) ]

    taken_ready : f < many R a → s ≡ bytes_of R f → Ready R a (λ g. H g ⊎ (g ≡ f)) (noted d f (length s)) store'
    taken_ready inside is = record {
      number_is = w.number_is;
      entries_is = w.entries_is;
      parts_is = w.parts_is;
      layout_is = w.layout_is;
      sizes = record { heard_all = length-set q.heard f 1 ∙ w.sizes.heard_all; place_all = length-set q.place f d.used ∙ w.sizes.place_all; size_all = length-set q.size f (length s) ∙ w.sizes.size_all };
      opened = Keeping.opened_kept d store s w.sizes p w.opened;
      heard = hears;
      only = λ g h. held g h (ℕ_discrete g f);
      used_is = omega (arith, w.used_is, more (size_of R a) (heard_bit q) (heard_bit q') f (λ g n. ap (λ x. not (eqb x 0)) (Keeping.set_other d store s w.sizes p w.opened q.heard 1 n)) off on (many R a) inside, ap length is);
      room = omega (arith, w.room, Keeping.put_length d.used s store p.room);
    }
      where
        new : Heard q' f
        new = Keeping.heard_new d store s w.sizes p w.opened

        on : heard_bit q' f ≡ true
        on = ap not (ne_eqb (get_or q'.heard f 0) 0 new.1)

        hears : (g : ℕ) → g < many R a → H g ⊎ (g ≡ f) → Heard q' g
        hears g h (inl k) = Keeping.heard_kept d store s w.sizes p w.opened (w.heard g h k)
        hears g h (inr e) = subst (Heard q') (sym e) new

        held : (g : ℕ) → Heard q' g → Dec (g ≡ f) → (g < many R a) × (H g ⊎ (g ≡ f)) × (part_of q' store' g ≡ bytes_of R g)
        held g h (yes e) = (subst (λ z. z < many R a) (sym e) inside, inr e, subst (λ z. part_of q' store' z ≡ bytes_of R z) (sym e) (Keeping.part_new d store s w.sizes p w.opened ∙ is))
        held g h (no n) =
            let old = Keeping.heard_old d store s w.sizes p w.opened n h in
            let k = w.only g old in
            (k.0, inl k.1, Keeping.part_kept d store s w.sizes p w.opened old ∙ k.2)

  -- ---- bytes handed in
  abbrev Fair : Bytes → Type 0
  Fair s = (r : Reply) → Is 12 s r → r.number ≡ R.number → (r.fragment < many R a) × (r ≡ reply_of R r.fragment)

  hand_ready : {H : ℕ → Type 0} {d e : Record} {store x s : Bytes} {n : ℕ} → Ready R a H d store → Accepts d store s n e x → Fair s
      → Ready R a (λ f. H f ⊎ (s ≡ bytes_of R f)) e x
  hand_ready {H} {d} {e} {store} {x} {s} {n} w c fair = go (ℕ_discrete n 0)
    where
      took : (p : Passed d store s) → n ≡ 0 → Ready R a (λ f. H f ⊎ (s ≡ bytes_of R f)) e x
      took p z = rw ((c.taken z p.reply p.is).0, (c.taken z p.reply p.is).1) (relabel back forth (taken_ready w p inside is))
        where
          inside : p.reply.fragment < many R a
          inside = (fair p.reply p.is (p.number_same ∙ w.number_is)).0

          is : s ≡ bytes_of R p.reply.fragment
          is = sym p.is.writes ∙ ap (λ r. write 12 r) (fair p.reply p.is (p.number_same ∙ w.number_is)).1

          back : (g : ℕ) → g < many R a → H g ⊎ (s ≡ bytes_of R g) → H g ⊎ (g ≡ p.reply.fragment)
          back g h (inl k) = inl k
          back g h (inr k) = inr (sym (laid_fragment R a g) ∙ ap (λ r. r.fragment) (same_reply R a s (reply_of R g) p.reply (subst (λ z. Is 12 z (reply_of R g)) (sym k) (is_laid R a g h)) p.is))

          forth : (g : ℕ) → g < many R a → H g ⊎ (g ≡ p.reply.fragment) → H g ⊎ (s ≡ bytes_of R g)
          forth g h (inl k) = inl k
          forth g h (inr k) = inr (is ∙ ap (bytes_of R) (sym k))

      kept : n ≢ 0 → (f : ℕ) → f < many R a → H f ⊎ (s ≡ bytes_of R f) → H f
      kept z f h (inl k) = k
      kept z f h (inr k) = elim (told R a w f h) [ inl y ↦ (w.only f y).1 | inr y ↦ absurd (z (one_why d store s n 0 c.why (subst (λ b. Why d store b 0) (sym k) (takes R a w f h (λ v. v.1 y))))) ]

      go : Dec (n ≡ 0) → Ready R a (λ f. H f ⊎ (s ≡ bytes_of R f)) e x
      go (yes z) = took (passed d store s (subst (Why d store s) z c.why)) z
      go (no z) = rw ((c.refused z).0, (c.refused z).1) (relabel (kept z) (λ f h k. inl k) w)

  -- ---- any calls
  later : {c : Event} {l : List Event} → LaidHonest R (c ∷ l) → LaidHonest R l
  later h s n m = h s n (Memᴰ.tail m)

  run : {H : ℕ → Type 0} {d e : Record} {store x : Bytes} {l : List Event} → Calls d store l e x → LaidHonest R l → Ready R a H d store
      → Ready R a (λ f. H f ⊎ HandedIn (bytes_of R f) l) e x
  run {H} Calls.none h w = relabel (λ f k z. nothing_handed (H f) (bytes_of R f) z) (λ f k z. inl z) w
  run {H} (Calls.hand s n c k) h w = relabel (λ f j z. one_handed (H f) (bytes_of R f) z) (λ f j z. handed_one (H f) (bytes_of R f) z) (run {H = λ f. H f ⊎ (s ≡ bytes_of R f)} k (later h) (hand_ready w c (h s n (Memᴰ.head refl))))
  run {H} (Calls.ask n x c k) h w = relabel (λ f j z. mute_later (H f) (bytes_of R f) refl z) (λ f j z. later_mute (H f) (bytes_of R f) refl z) (run {H = H} k (later h) w)
  run {H} {d} {e} {store} (Calls.open_refused layout entries number n z c k) h w =
      relabel (λ f j y. mute_later (H f) (bytes_of R f) refl y) (λ f j y. later_mute (H f) (bytes_of R f) refl y) (run {H = H} k (later h) (subst (λ b. Ready R a H b store) (sym (c.refused z)) w))

  -- ---- what it says then
  faithful : {l : List Event} {d : Record} {store : Bytes} → Ready R a (λ f. HandedIn (bytes_of R f) l) d store → LaidFaithful R l d store
  faithful {l} {d} {store} w = record {
    waiting = λ f h u. waits_for R a w f h (λ y. u (w.only f y).1);
    answer = λ all. answers R a w (λ f h. w.heard f h (all f h));
    first = λ f h u n e x c. one_why d store (bytes_of R f) n 0 c.why (takes R a w f h (λ y. u (w.only f y).1));
    further = λ f h k n e x c. one_why d store (bytes_of R f) n 16 c.why (repeats R a w f h (w.heard f h k));
    damaged = λ s u n e x c. one_why d store s n 13 c.why (no_reply R a w s u);
    stranger = λ s r i u n e x c. one_why d store s n 14 c.why (foreign R a w s r i u);
  }

pub laid_faithful : (R : Round) → Asked R → (old d : Record) (store : Bytes) → Opens old R.register.layout R.list.count R.number 0 d → LaidRoom R store
    → (l : List Event) (e : Record) (x : Bytes) → Calls d store l e x → LaidHonest R l → LaidFaithful R l e x
laid_faithful R a old d store o room l e x c h =
    faithful R a (relabel R a (λ f k z. inr z) (λ f k z. none_before z)
    (run R a {H = λ f. ⊥} c h (subst (λ b. Ready R a (λ f. ⊥) b store) (sym is) (fresh_ready R a old store (subst (λ b. Opens old R.register.layout R.list.count R.number 0 b) is o) room))))
  where
    is : d ≡ opened_as R.register.layout R.list.count R.number
    is = o.opened refl
