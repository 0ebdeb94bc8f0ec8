-- THE REPLY LAID DOWN IS LAWFUL, so the desk says what the question means at the top row of the joined register.
use Prim.Native.Nat.{ℕ, suc, ◌-◌, ◌<◌}
use native.Mathlib.Omega.{arith}
use native.Mathlib.Nat.{add-zero}
use mathlib.Core.Path.{◌≡◌, refl, sym, ap, ◌∙◌, subst}
use mathlib.Core.Bool.{Bool}
use mathlib.Core.Option.{some}
use mathlib.Core.List.{List, [], Memᴰ}
use lib.ListN.{length, get_or}
use Rattle.meaning.specs.Says.{Says}
use Rattle.meaning.specs.Bytes.{Bytes}
use Rattle.meaning.specs.Entry.{Entry, entries, top, Earlier, EntryHolds}
use Rattle.meaning.specs.Algebra.{bool}
use Rattle.meaning.specs.Formula.{Ref, formula, value}
use Rattle.meaning.specs.Fragment.{Rows}
use Rattle.meaning.specs.Run.{Vectors}
use Rattle.meaning.specs.Reply.{stand_ins, tabulated, var_v, var_d, laid_run, laid_down}
use Rattle.meaning.specs.Register.{Register, parts, rows_in, Cut, place, joined}
use Rattle.meaning.specs.Solve.{Values, assign, here_of, lower_of}
use Rattle.meaning.specs.Lawful.{Right, Lawful, HereIn, LowerIn}
use Rattle.meaning.specs.Promise.{DepotLawful, DeskAnswer}
use Rattle.meaning.proofs.Says.{says_iff, says_same}
use Rattle.meaning.proofs.Tree.{Finite, deep, deep_says}
use Rattle.meaning.proofs.Entry.{readers_list, last_entry, mean, mean_says, mean_agrees}
use Rattle.meaning.proofs.Formula.{reading, formula_laws}
use Rattle.meaning.proofs.Run.{VarsAre, Answers, run_is}
use Rattle.meaning.proofs.Reply.{Position, position, Stood, stood, stands_in, tabulated_at}
use Rattle.meaning.proofs.Register.{place_real, place_stands, upright, onward, joined_finite, joined_placed}
use Rattle.meaning.proofs.Solve.{assign_v, assign_d, solves}

module _ (G : Register) (c : Cut G) (es : List (Entry Bytes)) (w : Earlier 0 es) where
  abbrev fin : Finite (joined G)
  fin = joined_finite G c

  -- what V and D of entry e are at a row of the joined register
  abbrev here_at : ℕ → ℕ × ℕ → Bool
  here_at = mean fin es

  abbrev lower_at : ℕ → ℕ × ℕ → Bool
  lower_at e = deep fin (here_at e)

  here_says : (f e : ℕ) → Says (HereIn G es f e) (here_at e (f, 0))
  here_says f e = mean_says fin es e (f, 0)

  lower_says : (f e : ℕ) → Says (LowerIn G es f e) (lower_at e (f, 0))
  lower_says f e = deep_says fin (here_at e) (EntryHolds (joined G) es e) (mean_says fin es e) (f, 0)

  module _ (number f : ℕ) (h : f < parts G) where
    abbrev R : Rows
    R = rows_in G f

    abbrev rows : ℕ
    rows = suc R.last

    abbrev RightOf : ℕ → (ℕ → Bool) → (ℕ → Bool) → Type 0
    RightOf = Right (HereIn G es) (LowerIn G es) (length es)

    -- under right values of the fragments stood for
    module _ (S : Values Bool) (ok : (g : ℕ) → Memᴰ g (stand_ins R rows) → RightOf g (S.v g) (S.d g)) where
      abbrev α : ℕ → Bool
      α = assign bool (length es) (stand_ins R rows) S

      -- a stand-in's variables have the values at the row 0 that it stands for
      vars : VarsAre formula (reading α) (formula_laws α) fin R (place G f) (joined_placed G c f h) es w here_at (mean_agrees fin es w) (var_v R es) (var_d R es) []
      vars k x z = (
        λ e i y. record { within = tt; is = assign_v bool (length es) (stand_ins R rows) S p e at.early y ∙ ap (λ g. S.v g e) at.is ∙ says_same (right e y).0 (here_says g e) ∙ ap (here_at e) there },
        λ e i y. record { within = tt; is = assign_d bool (length es) (stand_ins R rows) S p e at.early y ∙ ap (λ g. S.d g e) at.is ∙ says_same (right e y).1 (lower_says g e) ∙ ap (lower_at e) there },
      )
        where
          g : ℕ
          g = R.goes k

          p : ℕ
          p = length (stand_ins R k)

          at : Position R k rows
          at = position R k rows (omega arith) z

          there : (g, 0) ≡ place G f k
          there = sym (place_stands G f k g (record { inside = x; stands = z; goes = refl }))

          right : RightOf g (S.v g) (S.d g)
          right = ok g (stands_in R rows g (record { row = k; early = omega arith; stands = z; goes = refl }))

      answers : Answers formula (reading α) (formula_laws α) fin R (place G f) (joined_placed G c f h) es w here_at (mean_agrees fin es w) (var_v R es) (var_d R es) (laid_run R es)
      answers = run_is formula (reading α) (formula_laws α) fin R (place G f) (joined_placed G c f h) es w here_at (mean_agrees fin es w) (var_v R es) (var_d R es) [] vars

      right : RightOf f (here_of bool (length es) (laid_down R es number f) S) (lower_of bool (length es) (laid_down R es number f) S)
      unfolding laid_down
      right e y = (subst (Says (HereIn G es f e)) (sym v_is) (here_says f e), subst (Says (LowerIn G es f e)) (sym d_is) (lower_says f e))
        where
          o : Vectors formula
          o = laid_run R es

          val : Ref → Bool
          val r = value bool α o.st r

          top_place : place G f 0 ≡ (f, 0)
          top_place = place_real G f 0 (upright G c f h).real

          v_is : val (get_or (tabulated (length es) 0 o.v) e Ref.low) ≡ here_at e (f, 0)
          v_is = ap val (tabulated_at (length es) 0 e o.v Ref.low y ∙ ap o.v (add-zero e)) ∙ (answers.here e (omega arith) y).is ∙ ap (here_at e) top_place

          d_is : val (get_or (tabulated (length es) 0 o.d) e Ref.low) ≡ lower_at e (f, 0)
          d_is = ap val (tabulated_at (length es) 0 e o.d Ref.low y ∙ ap o.d (add-zero e)) ∙ (answers.lower e (omega arith) y).is ∙ ap (lower_at e) top_place

    lawful : Lawful (HereIn G es) (LowerIn G es) (length es) (parts G) f (laid_down R es number f)
    unfolding laid_down
    lawful = record { onward = λ g i. forward g (stood R rows g i); right = right }
      where
        forward : (g : ℕ) → Stood R rows g → (f < g) × (g < parts G)
        forward g s = onward G c f s.row g h (record { inside = omega (arith, s.early); stands = s.stands; goes = s.goes })

pub depot_lawful : DepotLawful
depot_lawful G c es w number f h = lawful G c es w number f h

pub desk_answer : DeskAnswer
desk_answer G c q number =
    let l = readers_list q in
    let i = last_entry (joined G) q (0, 0) in
    let s = solves (HereIn G (entries q)) (LowerIn G (entries q)) (length (entries q)) (parts G) (omega (arith, l.1)) c.layout.some_part (λ f. some (laid_down (rows_in G f) (entries q) number f))
    (λ f h. (laid_down (rows_in G f) (entries q) number f, refl, depot_lawful G c (entries q) l.0 number f h)) in
    let e : length (entries q) - 1 ≡ top q = omega (arith, l.1) in
    (s.0, s.1, says_iff i.1 i.0 (rw e at s.2))
