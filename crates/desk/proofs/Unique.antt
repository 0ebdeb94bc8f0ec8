-- Any two results that a contract allows are equal; and what a call that refuses nothing has passed.
use Prim.Native.Nat.{ℕ, ◌+◌, ◌≤◌}
use mathlib.Core.Path.{◌≡◌, sym, ap, ◌∙◌, subst, fun_ext}
use mathlib.Core.Option.{Option, some}
use mathlib.Core.Logic.{◌≢◌}
use native.Mathlib.Omega.{arith}
use native.Mathlib.Decide.{ℕ_discrete}
use lib.ListN.{length}
use Rattle.meaning.specs.Bytes.{Bytes}
use Rattle.meaning.specs.Reply.{Reply}
use Rattle.reply.specs.Read.{Is}
use Rattle.meaning.specs.Solve.{outcome}
use Rattle.meaning.proofs.Refused.{One, one_granted, one_unless, through}
use Rattle.whole.specs.Whole.{Whole, Heard, Shaped, part_of}
use Rattle.desk.specs.Calls.{Why, OpenRefusal, AskRefusal, Held, said_of}
use Rattle.desk.specs.Promise.{OneOpening, OneAccepting, OneAsking}
use Rattle.whole.specs.declared.Question.{Question}
use Rattle.whole.specs.declared.Record.{Record}
use Rattle.whole.proofs.Pieces.{one_of, heard_or_not}

pub one_why : (d : Record) (store s : Bytes) → One (Why d store s)
one_why d store s = one_unless (one_unless (one_unless (one_unless (one_unless (one_unless (one_unless one_granted))))))

pub one_open_refusal : (d : Record) (layout : Bytes) (entries number : ℕ) → One (OpenRefusal d layout entries number)
one_open_refusal d layout entries number = one_unless (one_unless one_granted)

pub one_ask_refusal : (d : Record) (store : Bytes) → One (AskRefusal d store)
one_ask_refusal d store = one_unless (one_unless one_granted)

-- what bytes that are taken have passed
pub record Passed (d : Record) (store s : Bytes) : Type 0 where
  pub whole : Whole d store
  pub asked : d.question.number ≢ 0
  pub reply : Reply
  pub is : Is 12 s reply
  pub number_same : reply.number ≡ d.question.number
  pub shaped : Shaped d.question reply
  pub unheard : Heard d.question reply.fragment → ⊥
  pub room : d.used + length s ≤ length store

pub passed : (d : Record) (store s : Bytes) → Why d store s 0 → Passed d store s
passed d store s w =
    let a = through (λ z. omega (arith, z)) w in
    let b = through (λ z. omega (arith, z)) a.1 in
    let c = through (λ z. omega (arith, z)) b.1 in
    let e = through (λ z. omega (arith, z)) c.1 in
    let f = through (λ z. omega (arith, z)) e.1 in
    let g = through (λ z. omega (arith, z)) f.1 in
    let h = through (λ z. omega (arith, z)) g.1 in
    let r = c.0.0 in
    let i = c.0.1 in
    record { whole = a.0; asked = b.0; reply = r; is = i; number_same = e.0 r i; shaped = f.0 r i; unheard = g.0 r i; room = h.0 }

pub one_opening : OneOpening
one_opening d layout entries number m n a b p q = (e, go (ℕ_discrete m 0))
  where
    e : m ≡ n
    e = one_open_refusal d layout entries number m n p.why q.why

    go : Dec (m ≡ 0) → a ≡ b
    go (yes z) = p.opened z ∙ sym (q.opened (sym e ∙ z))
    go (no z) = p.refused z ∙ sym (q.refused (λ w. z (e ∙ w)))

-- the replies held are one function
held_same : (q : Question) (store : Bytes) (a b : ℕ → Option Reply) → Held q store a → Held q store b → a ≡ b
held_same q store a b p r = fun_ext (λ f. go f (heard_or_not q f))
  where
    go : (f : ℕ) → Dec (Heard q f) → a f ≡ b f
    go f (yes h) =
        let x = p.heard f h in
        let y = r.heard f h in
        x.1 ∙ ap some (one_of (part_of q store f) x.0 y.0 x.2 y.2) ∙ sym y.1
    go f (no n) = p.unheard f n ∙ sym (r.unheard f n)

pub one_asking : OneAsking
one_asking d store m n a b p q = (e, go (ℕ_discrete m 0))
  where
    e : m ≡ n
    e = one_ask_refusal d store m n p.why q.why

    go : Dec (m ≡ 0) → a ≡ b
    go (yes z) =
        let x = p.answered z in
        let y = q.answered (sym e ∙ z) in
        x.2 ∙ ap (λ h. said_of (outcome d.question.entries d.question.parts h)) (held_same d.question store x.0 y.0 x.1 y.1) ∙ sym y.2
    go (no z) = p.refused z ∙ sym (q.refused (λ w. z (e ∙ w)))

pub one_accepting : OneAccepting
one_accepting d store s m n a b x y p q = (e, (go (ℕ_discrete m 0)).0, (go (ℕ_discrete m 0)).1)
  where
    e : m ≡ n
    e = one_why d store s m n p.why q.why

    same : m ≡ 0 → Passed d store s → (a ≡ b) × (x ≡ y)
    same z t = ((p.taken z t.reply t.is).0 ∙ sym (q.taken (sym e ∙ z) t.reply t.is).0, (p.taken z t.reply t.is).1 ∙ sym (q.taken (sym e ∙ z) t.reply t.is).1)

    go : Dec (m ≡ 0) → (a ≡ b) × (x ≡ y)
    go (yes z) = same z (passed d store s (subst (Why d store s) z p.why))
    go (no z) = ((p.refused z).0 ∙ sym (q.refused (λ w. z (e ∙ w))).0, (p.refused z).1 ∙ sym (q.refused (λ w. z (e ∙ w))).1)
