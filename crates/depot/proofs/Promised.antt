-- The proofs of what `specs/Promise.antt` promises.
use Prim.Native.Nat.{ℕ, zero, suc, ◌+◌, ◌*◌, ◌<◌, ◌≤◌}
use native.Mathlib.Omega.{arith}
use mathlib.Core.Path.{◌≡◌, refl, sym, ap, ◌∙◌, subst}
use mathlib.Core.Bool.{cond}
use mathlib.Core.Logic.{◌⊎◌, inl, inr}
use mathlib.Core.List.{List, ◌∷◌, ◌++◌}
use lib.ListN.{length, get_or, drop}
use lib.Dec.{eqb}
use native.Mathlib.Decide.{dec_lt}
use Rattle.meaning.specs.Bytes.{Bytes, word}
use Rattle.meaning.specs.Entry.{Entry, Points}
use Rattle.meaning.specs.Fragment.{Fragment, row_count, rows_of}
use Rattle.meaning.specs.Reply.{tabulated, laid_down}
use Rattle.meaning.proofs.StepBound.{no_steps}
use Rattle.question.specs.declared.List as L
use Rattle.question.specs.Listed.{Place, Inside, entry_of, placed, EntryRule, Keeps, listed}
use Rattle.reply.specs.Write.{write}
use Rattle.meaning.specs.Refused.{Unless, refused, passed, Granted, granted}
use Rattle.meaning.proofs.Refused.{One, one_granted, one_unless, beyond}
use Rattle.std.specs.Prelude.{Result, Ok, Err}
use Rattle.depot.specs.declared.Refusal as R
use Rattle.depot.specs.declared.Refusal.TheVariants.{BadList, BadFragment, ShortWork, TooManySteps, ShortReply}
use Rattle.depot.specs.Number.{number_of, refusal_number, size_of}
use Rattle.depot.specs.Answer.{Call, call, laid, bytes, Late, Refusal, Answered, memory_after, buffer_after}
use Rattle.depot.specs.Promise.{OneAnswer, OneResult, OnlyEight, NeverEight, LaidWellFormed, Agree, UnusedIgnored}
use Rattle.writing.proofs.Laid.{laid_formed}
use Rattle.question.proofs.Listed.{listed_length, keeps_earlier}

-- ONE ANSWER
refusal_one : (c : Call) (work out : List ℕ) → One (Refusal c work out)
refusal_one c work out = one_unless (one_unless (one_unless (one_unless (one_unless one_granted))))

pub one_answer : OneAnswer
one_answer c work out r size w o r' size' w' o' a b =
    let e = refusal_one c work out r r' a.refusal b.refusal in (
      e,
      a.size_is ∙ ap (λ r. cond (eqb r 0) (length (bytes c)) 0) e ∙ sym b.size_is,
      a.memory ∙ ap (λ r. memory_after r work) e ∙ sym b.memory,
      a.buffer ∙ ap (λ r. buffer_after c r out) e ∙ sym b.buffer,
    )

-- ONE RESULT: a refusal is known by its number
refusal_at : ℕ → R.Refusal
refusal_at n = cond (eqb n 5) BadList (cond (eqb n 6) BadFragment (cond (eqb n 7) ShortWork (cond (eqb n 8) TooManySteps ShortReply)))

at_number : (r : R.Refusal) → refusal_at (number_of r) ≡ r
unfolding refusal_at
at_number BadList = refl
at_number BadFragment = refl
at_number ShortWork = refl
at_number TooManySteps = refl
at_number ShortReply = refl

some_number : (r : R.Refusal) → 0 < number_of r
some_number BadList = omega arith
some_number BadFragment = omega arith
some_number ShortWork = omega arith
some_number TooManySteps = omega arith
some_number ShortReply = omega arith

result_is : (r r' : Result ℕ R.Refusal) → refusal_number r ≡ refusal_number r' → size_of r ≡ size_of r' → r ≡ r'
result_is (Ok n) (Ok n') e q = ap Ok q
result_is (Ok n) (Err x') e q = absurd (omega (arith, some_number x'))
result_is (Err x) (Ok n') e q = absurd (omega (arith, some_number x))
result_is (Err x) (Err x') e q = ap Err (sym (at_number x) ∙ ap refusal_at e ∙ at_number x')

pub one_result : OneResult
one_result c work out r w o r' w' o' a b =
    let s = one_answer c work out (refusal_number r) (size_of r) w o (refusal_number r') (size_of r') w' o' a b in (result_is r r' s.0 s.1, s.2, s.3)

-- ONLY EIGHT
unless_map : {n : ℕ} {A B : Type 0} {P Q : ℕ → Type 0} {r : ℕ} → (A → B) → (B → A) → (P r → Q r) → Unless A n P r → Unless B n Q r
unless_map f g h (refused a) = refused (λ b. a (g b))
unless_map f g h (passed a p) = passed (f a) (h p)

last_two : (c : Call) (out : List ℕ) (r : ℕ) → length (bytes c) ≤ length out → Late c out r → (r ≡ 0) ⊎ ((r ≡ 8) × (4096 < length (laid c).steps))
last_two c out r h (refused a) = inr (refl, few)
  where
    few : 4096 < length (laid c).steps
    few = elim (dec_lt 4096 (length (laid c).steps)) [ yes k ↦ k | no k ↦ absurd (a (omega arith)) ]
last_two c out r h (passed a p) = inl (done r (beyond h p))
  where
    done : (r : ℕ) → Granted r → r ≡ 0
    done r granted = refl

pub only_eight : OnlyEight
only_eight c work out r size w o a l m = last_two c out r m.room (beyond m.memory (beyond l.sound (beyond (l.keeps, l.asked) a.refusal)))

pub never_eight : NeverEight
unfolding laid_down
never_eight c work out r size w o a l m none = go (only_eight c work out r size w o a l m)
  where
    go : (r ≡ 0) ⊎ ((r ≡ 8) × (4096 < length (laid c).steps)) → r ≡ 0
    go (inl e) = e
    go (inr e) = absurd (omega (arith, e.1, no_steps c.part c.fragment l.sound none (listed c.list c.text) (keeps_earlier c.list c.text l.keeps) c.number))

-- WELL FORMED
pub laid_well_formed : LaidWellFormed
laid_well_formed c l small few =
    let n = listed_length c.list c.text in
    laid_formed c.number c.part c.fragment l.sound (listed c.list c.text) (omega (arith, n, l.keeps.some_entry)) (omega (arith, n, l.keeps.most)) l.asked small few

-- WHAT IS NOT USED
same_named : (t : Bytes) (k a b a' b' : ℕ) → placed k a b ≡ placed k a' b' → entry_of (word t) k a b ≡ entry_of (word t) k a' b'
unfolding entry_of
same_named t zero a b a' b' e = refl
same_named t (suc zero) a b a' b' e = let p : ◌≡◌ {A = Place} (a, b) (a', b') = cc in ap (λ p. Entry.label (word t p.0 p.1)) p
same_named t (suc (suc zero)) a b a' b' e = let p : ◌≡◌ {A = Place} (a, b) (a', b') = cc in ap (λ p. Entry.text (word t p.0 p.1)) p
same_named t (suc (suc (suc zero))) a b a' b' e = cc
same_named t (suc (suc (suc (suc zero)))) a b a' b' e = cc
same_named t (suc (suc (suc (suc (suc zero))))) a b a' b' e = cc
same_named t (suc (suc (suc (suc (suc (suc zero)))))) a b a' b' e = cc
same_named t (suc (suc (suc (suc (suc (suc (suc zero))))))) a b a' b' e = cc
same_named t (suc (suc (suc (suc (suc (suc (suc (suc zero)))))))) a b a' b' e = cc
same_named t (suc (suc (suc (suc (suc (suc (suc (suc (suc k))))))))) a b a' b' e = refl

tabulated_same : {X : Type 0} (n k : ℕ) (f g : ℕ → X) → ((i : ℕ) → i < n + k → f i ≡ g i) → tabulated n k f ≡ tabulated n k g
unfolding tabulated
tabulated_same zero k f g h = refl
tabulated_same (suc n) k f g h = λ i. h k (omega arith) i ∷ tabulated_same n (suc k) f g (λ j l. h j (omega arith)) i

module _ (l l' : L.List) (a : Agree l l') (t : Bytes) where
  keeps_on : Keeps l t → Keeps l' t
  keeps_on k = record {
    some_entry = subst (λ n. 1 ≤ n) a.count k.some_entry;
    most = subst (λ n. n ≤ 32) a.count k.most;
    each = λ i h.
        let j : i < l.count = subst (λ n. i < n) (sym a.count) h in
        record { known = subst (λ n. n ≤ 8) (a.kinds i j) (k.each i j).known; points = subst (Points (Inside t) i) (a.uses i j) (k.each i j).points };
  }

  keeps_back : Keeps l' t → Keeps l t
  keeps_back k = record {
    some_entry = subst (λ n. 1 ≤ n) (sym a.count) k.some_entry;
    most = subst (λ n. n ≤ 32) (sym a.count) k.most;
    each = λ i h.
        let r : EntryRule t i (get_or l'.kinds i 0) (get_or l'.left i 0) (get_or l'.right i 0) = k.each i (subst (λ n. i < n) a.count h) in
        record { known = subst (λ n. n ≤ 8) (sym (a.kinds i h)) r.known; points = subst (Points (Inside t) i) (sym (a.uses i h)) r.points };
  }

  entry_same : (i : ℕ) → i < l.count
      → entry_of (word t) (get_or l.kinds i 0) (get_or l.left i 0) (get_or l.right i 0) ≡ entry_of (word t) (get_or l'.kinds i 0) (get_or l'.left i 0) (get_or l'.right i 0)
  entry_same i h =
      ap (λ k. entry_of (word t) k (get_or l.left i 0) (get_or l.right i 0)) (a.kinds i h)
      ∙ same_named t (get_or l'.kinds i 0) (get_or l.left i 0) (get_or l.right i 0) (get_or l'.left i 0) (get_or l'.right i 0) (ap (λ k. placed k (get_or l.left i 0) (get_or l.right i 0)) (sym (a.kinds i h)) ∙ a.uses i h)

  listed_same : listed l t ≡ listed l' t
  unfolding listed
  listed_same =
      tabulated_same l.count 0 _ _ (λ i h. entry_same i (omega arith))
      ∙ ap (λ n. tabulated n 0 (λ i. entry_of (word t) (get_or l'.kinds i 0) (get_or l'.left i 0) (get_or l'.right i 0))) a.count

  module _ (F : Fragment) (part number : ℕ) (work out : List ℕ) where
    laid_same : laid (call l t F part number) ≡ laid (call l' t F part number)
    laid_same = ap (λ es. laid_down (rows_of F) es number part) listed_same

    answered_on : {r size : ℕ} {w o : List ℕ} → Answered (call l t F part number) work out r size w o → Answered (call l' t F part number) work out r size w o
    answered_on {r} {size} {w} {o} x = record {
      refusal = unless_map (λ k. (keeps_on k.0, k.1)) (λ k. (keeps_back k.0, k.1))
          (unless_map (λ s. s) (λ s. s)
          (unless_map (subst (λ n. 4 * (row_count F * n) + 12288 ≤ length work) a.count) (subst (λ n. 4 * (row_count F * n) + 12288 ≤ length work) (sym a.count))
          (subst (λ y. Unless (length y.steps ≤ 4096) 8 (Unless (length (write 12 y) ≤ length out) 9 Granted) r) laid_same))) x.refusal;
      size_is = x.size_is ∙ ap (λ y. cond (eqb r 0) (length (write 12 y)) 0) laid_same;
      memory = x.memory;
      buffer = x.buffer ∙ ap (λ y. cond (eqb r 0) (write 12 y ++ drop (length (write 12 y)) out) out) laid_same;
    }

pub unused_ignored : UnusedIgnored
unused_ignored l l' a t F part number work out r size w o r' size' w' o' x y =
    one_answer (call l' t F part number) work out r size w o r' size' w' o' (answered_on l l' a t F part number work out x) y
