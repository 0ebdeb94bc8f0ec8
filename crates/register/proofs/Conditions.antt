-- The conditions of acceptance, but for condition 3 (`Trace`).
use Prim.Native.Nat.{ℕ, ◌-◌, ◌<◌}
use native.Mathlib.Omega.{arith}
use mathlib.Core.Path.{◌≡◌, refl, sym, ap, ◌∙◌, subst}
use mathlib.Core.Logic.{◌≢◌, ◌↔◌}
use lib.ListN.{length, get_or, get_or-replicate}
use Rattle.meaning.specs.Bytes.{Bytes}
use Rattle.meaning.specs.Tree.{Tree}
use Rattle.meaning.specs.Entry.{entries, top, EntryHolds}
use Rattle.meaning.specs.Holds.{Holds}
use Rattle.meaning.specs.Reply.{Reply}
use Rattle.meaning.proofs.Entry.{readers_list, last_entry}
use Rattle.meaning.proofs.Solve.{waits}
use Rattle.question.specs.Listed.{listed}
use Rattle.question.specs.declared.List as L
use Rattle.reader.specs.declared.Answer.{Answer}
use Rattle.reader.specs.Read.{Written, Read}
use Rattle.reader.proofs.Outcome.{read_listed}
use Rattle.reply.specs.Read.{Is}
use Rattle.reply.specs.WellFormed.{WellFormed}
use Rattle.reply.proofs.Round.{fits_12, round_trip}
use Rattle.depot.specs.Answer.{laid}
use Rattle.depot.proofs.Promised.{laid_well_formed}
use Rattle.question.proofs.Listed.{listed_length}
use Rattle.meaning.specs.Refused.{Unless, Granted}
use Rattle.whole.specs.Whole.{Whole, Heard}
use Rattle.desk.specs.Changed.{opened_as}
use Rattle.desk.specs.Calls.{Accepts, Asks, said_of}
use Rattle.desk.proofs.Unique.{one_why, one_ask_refusal}
use Rattle.meaning.proofs.Refused.{through}
use Rattle.desk.proofs.Keeping.{opening_whole}
use Rattle.whole.specs.declared.Record.{Record}
use Rattle.register.specs.Round.{Round}
use Rattle.register.specs.Promise.{DepotBytes, ReadBack, NothingCarriesOver}
use Rattle.register.proofs.Laid.{Granting, granting, sent_bytes}

pub depot_bytes : DepotBytes
depot_bytes c fits work out size work' out' a = rw (sent_bytes c work out size work' out' a) (record { formed = formed; fits = fits_12 (laid c) formed; writes = refl })
  where
    g : Granting c
    g = granting c work out size work' out' a

    formed : WellFormed (laid c)
    formed = laid_well_formed c (record { keeps = g.keeps; asked = g.asked; sound = g.sound }) fits g.few

pub read_back : ReadBack
read_back = round_trip 12

answer_is : {n : ℕ} {l : L.List} (a : Answer) → a.refusal ≡ n → a.list ≡ l → a ≡ record { refusal = n; list = l }
answer_is a e f = λ i. record { refusal = e i; list = f i }

-- the last entry of the reader's list, in any tree
pub readers_last : (R : Round) (a : Answer) → Read R.text a → a.refusal ≡ 0 → a.list ≡ R.list → (w : Written R.text) → (t : Tree) (u : t.N)
    → EntryHolds t (listed R.list R.text) (R.list.count - 1) u ↔ Holds t w.tree u
readers_last R a read_as zero_is same w t u = subst (λ i. EntryHolds t (listed R.list R.text) i u ↔ Holds t w.tree u) (sym place) (subst (λ l. EntryHolds t l (top w.tree) u ↔ Holds t w.tree u) (sym is) (both.1, both.0))
  where
    r : Read R.text (record { refusal = 0; list = R.list })
    r = subst (Read R.text) (answer_is a zero_is same) read_as

    is : listed R.list R.text ≡ entries w.tree
    is = read_listed R.text R.list r w

    place : R.list.count - 1 ≡ top w.tree
    place = omega (arith, listed_length R.list R.text, ap length is, (readers_list w.tree).1)

    both : Holds t w.tree u ↔ EntryHolds t (entries w.tree) (top w.tree) u
    both = last_entry t w.tree u

-- ---- across openings
pub nothing_carries_over : NothingCarriesOver
nothing_carries_over old d store layout entries number o = (waiting, foreign)
  where
    is : d ≡ opened_as layout entries number
    is = o.opened refl

    whole : Whole d store
    whole = opening_whole old layout entries number d o store

    some_part : 0 < length layout
    some_part = omega (arith, (through (λ z. omega (arith, z)) o.why).0.layout_keeps.some_part)

    above : old.last < number
    above = (through (λ z. omega (arith, z)) (through (λ z. omega (arith, z)) o.why).1).0

    number_is : d.question.number ≡ number
    number_is = ap (λ b. b.question.number) is

    asked : d.question.number ≢ 0
    asked z = omega (arith, above, number_is, z)

    silent : Heard d.question 0 → ⊥
    silent h = h.1 (ap (λ b. get_or b.question.heard 0 0) is ∙ get_or-replicate 32 0 0 0 (omega arith))

    waiting : (n a : ℕ) → Asks d store n a → (n ≡ 0) × (a ≡ 0)
    waiting n a k =
        let z : n ≡ 0 = one_ask_refusal d store n 0 k.why (Unless.passed whole (Unless.passed asked Granted.granted)) in
        let y = k.answered z in
        (z, y.2 ∙ ap said_of (waits d.question.entries d.question.parts y.0 0 (omega (arith, some_part, ap (λ b. b.question.parts) is)) (y.1.unheard 0 silent)))

    foreign : (s : Bytes) (r : Reply) → Is 12 s r → r.number ≢ number → (n : ℕ) (e : Record) (x : Bytes) → Accepts d store s n e x → n ≡ 14
    foreign s r i u n e x c = one_why d store s n 14 c.why (Unless.passed whole (Unless.passed asked (Unless.passed (r, i) (Unless.refused (λ y. u (y r i ∙ number_is))))))
