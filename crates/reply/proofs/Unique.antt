-- Any two results that a contract allows are equal.
use Prim.Native.Nat.{ℕ, zero, suc}
use mathlib.Core.Path.{◌≡◌, refl, sym, ap, ◌∙◌}
use native.Mathlib.Omega.{arith}
use Rattle.meaning.proofs.Refused.{one_granted, one_unless}
use Rattle.reply.specs.inner.Promise.{OneHead, OneIn, OneRef, OneStep}
use Rattle.reply.specs.Promise.{OneCheck, OneVerdict}
use Rattle.reply.specs.Read.{check_number}
use Rattle.reply.specs.declared.judging.NotAReply.{NotAReply}
use Rattle.std.specs.Prelude.{Option, Some, None, Result, Ok, Err}
use Rattle.reply.specs.inner.Fields.{kind_code, op_code}
use Rattle.reply.specs.declared.Head.{Head}
use Rattle.reply.specs.declared.RefKind.{RefKind}
use Rattle.reply.specs.declared.Op.{Op}
use Rattle.bits.specs.declared.Field.{Field}
use Rattle.reply.specs.declared.Reference.{Reference}
use Rattle.reply.specs.declared.StepField.{StepField}

pub one_check : OneCheck
one_check s = one_unless one_granted

-- 0 is of `Ok` alone, 13 of `Err` alone
one_number : (a b : Result (Unit {0}) NotAReply) → check_number a ≡ check_number b → a ≡ b
one_number (Ok u) (Ok v) e = refl
one_number (Ok u) (Err y) e = absurd (omega arith)
one_number (Err x) (Ok v) e = absurd (omega arith)
one_number (Err x) (Err y) e = refl

pub one_verdict : OneVerdict
one_verdict s a b p q = one_number a b (one_check s _ _ p q)

-- structs are equal where their fields are
head : ℕ → ℕ → ℕ → ℕ → ℕ → Head
head n f e i s = record { number = n; fragment = f; entries = e; ins = i; steps = s }

pub one_head : OneHead
unfolding head
one_head s a b p q =
    let e : head a.number a.fragment a.entries a.ins a.steps ≡ head b.number b.fragment b.entries b.ins b.steps =
    rw (p.number_is ∙ sym q.number_is, p.fragment_is ∙ sym q.fragment_is, p.entries_is ∙ sym q.entries_is, p.ins_is ∙ sym q.ins_is, p.steps_is ∙ sym q.steps_is) refl in
    e

pub one_in : OneIn
one_in s i a b p q = p.in_is ∙ sym q.in_is

-- a code stands for one kind or one operation
kind_back : ℕ → RefKind
kind_back zero = RefKind.Low
kind_back (suc zero) = RefKind.High
kind_back (suc (suc zero)) = RefKind.Var
kind_back (suc (suc (suc k))) = RefKind.Step

kind_of_code : (k : RefKind) → kind_back (kind_code k) ≡ k
unfolding kind_back
kind_of_code RefKind.Low = refl
kind_of_code RefKind.High = refl
kind_of_code RefKind.Var = refl
kind_of_code RefKind.Step = refl

op_back : ℕ → Option Op
op_back zero = Some Op.And
op_back (suc zero) = Some Op.Or
op_back (suc (suc zero)) = Some Op.Not
op_back (suc (suc (suc k))) = None

op_of_code : (o : Option Op) → op_back (op_code o) ≡ o
unfolding op_back
op_of_code (Some Op.And) = refl
op_of_code (Some Op.Or) = refl
op_of_code (Some Op.Not) = refl
op_of_code None = refl

one_kind : (a b : RefKind) → kind_code a ≡ kind_code b → a ≡ b
one_kind a b e = sym (kind_of_code a) ∙ ap kind_back e ∙ kind_of_code b

one_op : (a b : Option Op) → op_code a ≡ op_code b → a ≡ b
one_op a b e = sym (op_of_code a) ∙ ap op_back e ∙ op_of_code b

field : RefKind → ℕ → ℕ → Field Reference
field k n at = record { value = record { kind = k; number = n }; next = record { at = at } }

step : Option Op → RefKind → ℕ → RefKind → ℕ → StepField
step o j m k n = record { op = o; left = record { kind = j; number = m }; right = record { kind = k; number = n } }

pub one_ref : OneRef
unfolding field
one_ref w s at a b p q =
    let e : field a.value.kind a.value.number a.next.at ≡ field b.value.kind b.value.number b.next.at =
    rw (one_kind _ _ (p.kind_is ∙ sym q.kind_is), p.number_is ∙ sym q.number_is, p.next_is ∙ sym q.next_is) refl in
    e

pub one_step : OneStep
unfolding step
one_step w s at a b p q =
    let e : step a.op a.left.kind a.left.number a.right.kind a.right.number ≡ step b.op b.left.kind b.left.number b.right.kind b.right.number =
    rw (one_op _ _ (p.op_is ∙ sym q.op_is), one_kind _ _ (p.left_kind_is ∙ sym q.left_kind_is), p.left_number_is ∙ sym q.left_number_is, one_kind _ _ (p.right_kind_is ∙ sym q.right_kind_is), p.right_number_is ∙ sym q.right_number_is) refl in
    e
