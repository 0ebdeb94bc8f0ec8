-- A number stands for one refusal, and for one thing said: so any two answers that a contract allows are equal.
use Prim.Native.Nat.{ℕ}
use mathlib.Core.Path.{◌≡◌, refl, sym, ap, ◌∙◌}
use mathlib.Core.List.{List, [], ◌∷◌}
use lib.ListN.{get_or}
use Rattle.std.specs.Prelude.{Result, Ok, Err}
use Rattle.desk.specs.Numbers.{number_of, refusal_number, record_after, said_code, said_number}
use Rattle.desk.specs.Promise.{OneOpened, OneAccepted, OneAsked, OneDeskOpen, OneDeskAccept}
use Rattle.whole.specs.declared.Record.{Record}
use Rattle.desk.specs.declared.Refusal.{Refusal}
use Rattle.desk.specs.declared.Refusal.TheVariants.{BadLayout, OldNumber, NoneOpen, NotAReply, OtherQuestion, Misfit, AlreadyHeard, StoreFull, NotWhole}
use Rattle.desk.specs.declared.Said.{Said}
use Rattle.desk.specs.declared.Said.TheVariants.{Waiting, No, Yes}
use Rattle.desk.proofs.Calling.{number_some}
use Rattle.desk.proofs.Unique.{one_opening, one_accepting, one_asking}

-- from 10 on
refusals : List Refusal
refusals = BadLayout ∷ OldNumber ∷ NoneOpen ∷ NotAReply ∷ OtherQuestion ∷ Misfit ∷ AlreadyHeard ∷ StoreFull ∷ []

refusal_at : ℕ → Refusal
refusal_at n = get_or (NotWhole ∷ NotWhole ∷ NotWhole ∷ NotWhole ∷ NotWhole ∷ NotWhole ∷ NotWhole ∷ NotWhole ∷ NotWhole ∷ NotWhole ∷ refusals) n NotWhole

at_number : (e : Refusal) → refusal_at (number_of e) ≡ e
unfolding refusal_at refusals
at_number BadLayout = refl
at_number OldNumber = refl
at_number NoneOpen = refl
at_number NotAReply = refl
at_number OtherQuestion = refl
at_number Misfit = refl
at_number AlreadyHeard = refl
at_number StoreFull = refl
at_number NotWhole = refl

said_at : ℕ → Said
said_at n = get_or (Waiting ∷ No ∷ Yes ∷ []) n Yes

at_code : (s : Said) → said_at (said_code s) ≡ s
unfolding said_at
at_code Waiting = refl
at_code No = refl
at_code Yes = refl

-- answers of one number, whose values are equal where both are given
same : {T : Type 0} (a b : Result T Refusal) → refusal_number a ≡ refusal_number b → ((x y : T) → a ≡ Ok x → b ≡ Ok y → x ≡ y) → a ≡ b
same (Ok x) (Ok y) e v = ap Ok (v x y refl refl)
same (Ok x) (Err f) e v = absurd (number_some f (sym e))
same (Err e) (Ok y) z v = absurd (number_some e z)
same (Err e) (Err f) z v = ap Err (sym (at_number e) ∙ ap refusal_at z ∙ at_number f)

same_record : (d : Record) (a b : Result Record Refusal) → refusal_number a ≡ refusal_number b → record_after d a ≡ record_after d b → a ≡ b
same_record d a b e r = same a b e (λ x y p q. sym (ap (record_after d) p) ∙ r ∙ ap (record_after d) q)

same_said : (a b : Result Said Refusal) → refusal_number a ≡ refusal_number b → said_number a ≡ said_number b → a ≡ b
same_said a b e r = same a b e (λ x y p q. sym (at_code x) ∙ ap said_at (sym (ap said_number p) ∙ r ∙ ap said_number q) ∙ at_code y)

same_unit : (a b : Result (Unit {0}) Refusal) → refusal_number a ≡ refusal_number b → a ≡ b
same_unit a b e = same a b e (λ x y p q. refl)

pub one_opened : OneOpened
one_opened d layout entries number a b p q = let e = one_opening d layout entries number _ _ _ _ p q in same_record d a b e.0 e.1

pub one_accepted : OneAccepted
one_accepted d store s a b x y p q = let e = one_accepting d store s _ _ _ _ x y p q in (same_record d a b e.0 e.1, e.2)

pub one_asked : OneAsked
one_asked d store a b p q = let e = one_asking d store _ _ _ _ p q in same_said a b e.0 e.1

pub one_desk_open : OneDeskOpen
one_desk_open d layout entries number m n a b p q = let e = one_opening d layout entries number _ _ a b p q in (same_unit m n e.0, e.1)

pub one_desk_accept : OneDeskAccept
one_desk_accept d store s m n a b x y p q = let e = one_accepting d store s _ _ a b x y p q in (same_unit m n e.0, e.1, e.2)
