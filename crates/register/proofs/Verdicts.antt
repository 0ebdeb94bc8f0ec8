-- A desk that holds the replies laid down for the parts handed in, and what it answers.
use Prim.Native.Nat.{ℕ, ◌+◌, ◌≤◌, ◌<◌}
use native.Mathlib.Omega.{arith}
use native.Mathlib.Decide.{ℕ_discrete}
use mathlib.Core.Path.{◌≡◌, refl, sym, ap, ◌∙◌, subst}
use mathlib.Core.Bool.{Bool, true, false, not}
use mathlib.Core.Logic.{◌≢◌, ◌⊎◌, inl, inr}
use mathlib.Core.Option.{Option, some}
use lib.ListN.{length, get_or}
use lib.Dec.{eqb}
use Rattle.meaning.specs.Says.{Says, aye, nay}
use Rattle.meaning.specs.Bytes.{Bytes}
use Rattle.meaning.specs.Reply.{Reply, laid_down}
use Rattle.meaning.specs.Register.{parts}
use Rattle.meaning.specs.Lawful.{Lawful, HereIn, LowerIn}
use Rattle.meaning.specs.Solve.{said, outcome}
use Rattle.meaning.proofs.Register.{children}
use Rattle.meaning.proofs.Lawful.{depot_lawful}
use Rattle.meaning.proofs.Solve.{waits, solves}
use Rattle.question.specs.Listed.{listed}
use Rattle.reply.specs.WellFormed.{WellFormed}
use Rattle.reply.specs.Read.{Is}
use Rattle.reply.proofs.Round.{fits_12, one_reply}
use Rattle.question.proofs.Listed.{listed_length, keeps_earlier}
use Rattle.depot.proofs.Promised.{laid_well_formed}
use Rattle.meaning.specs.Refused.{Unless, Granted}
use Rattle.whole.specs.Whole.{Whole, Opened, Heard, Shaped, layout_of, part_of, Sizes}
use Rattle.desk.specs.Calls.{Asks, Why, Room, Held, said_of, AskRefusal}
use Rattle.desk.proofs.Unique.{one_ask_refusal}
use Rattle.whole.specs.declared.Question.{Question}
use Rattle.whole.specs.declared.Record.{Record}
use Rattle.register.specs.Round.{Round, call_of, total, Meaning}
use Rattle.register.proofs.Laid.{reply_of, bytes_of, Asked}
use Rattle.register.proofs.Sums.{weigh, spare}

-- the desk has heard f
abbrev pub heard_bit : Question → ℕ → Bool
heard_bit q f = not (eqb (get_or q.heard f 0) 0)

module _ (R : Round) (a : Asked R) where
  abbrev pub size_of : ℕ → ℕ
  size_of f = length (bytes_of R f)

  abbrev pub many : ℕ
  many = parts R.register

  -- H: the parts handed in
  pub record Ready (H : ℕ → Type 0) (d : Record) (store : Bytes) : Type 0 where
    pub number_is : d.question.number ≡ R.number
    pub entries_is : d.question.entries ≡ R.list.count
    pub parts_is : d.question.parts ≡ many
    pub layout_is : layout_of d.question ≡ R.register.layout
    pub sizes : Sizes d.question
    pub opened : Opened d.question d.used store
    pub heard : (f : ℕ) → f < many → H f → Heard d.question f
    pub only : (f : ℕ) → Heard d.question f → (f < many) × H f × (part_of d.question store f ≡ bytes_of R f)
    pub used_is : d.used ≡ weigh size_of (heard_bit d.question) many
    pub room : total size_of many ≤ length store

  -- ---- the replies laid down
  pub formed : (f : ℕ) → f < many → WellFormed (reply_of R f)
  formed f h = laid_well_formed (call_of R f) (record { keeps = a.keeps; asked = a.some_number; sound = a.cut.sound f h }) a.number_fits (a.few_steps f h)

  pub is_laid : (f : ℕ) → f < many → Is 12 (bytes_of R f) (reply_of R f)
  is_laid f h = record { formed = formed f h; fits = fits_12 (reply_of R f) (formed f h); writes = refl }

  pub same_reply : (s : Bytes) (r t : Reply) → Is 12 s r → Is 12 s t → r ≡ t
  same_reply s r t i j = one_reply 12 r t i.formed j.formed i.fits j.fits (i.writes ∙ sym j.writes)

  pub laid_number : (f : ℕ) → (reply_of R f).number ≡ R.number
  unfolding laid_down
  laid_number f = refl

  pub laid_fragment : (f : ℕ) → (reply_of R f).fragment ≡ f
  unfolding laid_down
  laid_fragment f = refl

  pub laid_entries : (f : ℕ) → (reply_of R f).entries ≡ R.list.count
  unfolding laid_down
  laid_entries f = listed_length R.list R.text

  module _ {H : ℕ → Type 0} {d : Record} {store : Bytes} (w : Ready H d store) where
    whole : Whole d store
    whole = Whole.opened (λ z. omega (arith, a.some_number, w.number_is, z)) w.opened

    asked : d.question.number ≢ 0
    asked z = omega (arith, a.some_number, w.number_is, z)

    shaped : (f : ℕ) → f < many → Shaped d.question (reply_of R f)
    unfolding laid_down
    shaped f h = record {
      fragment_in = rw w.parts_is h;
      entries_same = laid_entries f ∙ sym w.entries_is;
      children = rw w.layout_is (children R.register a.cut f h);
    }

    low : (f : ℕ) → f < many → f < 32
    low f h = omega (arith, h, a.cut.layout.most)

    pub told : (f : ℕ) → f < many → Heard d.question f ⊎ (get_or d.question.heard f 0 ≡ 0)
    told f h = go (ℕ_discrete (get_or d.question.heard f 0) 0)
      where
        go : Dec (get_or d.question.heard f 0 ≡ 0) → Heard d.question f ⊎ (get_or d.question.heard f 0 ≡ 0)
        go (yes z) = inr z
        go (no n) = inl (low f h, n)

    pub silent : (f : ℕ) → f < many → (Heard d.question f → ⊥) → get_or d.question.heard f 0 ≡ 0
    silent f h n = go (told f h)
      where
        go : Heard d.question f ⊎ (get_or d.question.heard f 0 ≡ 0) → get_or d.question.heard f 0 ≡ 0
        go (inl x) = absurd (n x)
        go (inr z) = z

    spare_room : (f : ℕ) → f < many → (Heard d.question f → ⊥) → d.used + length (bytes_of R f) ≤ length store
    spare_room f h n = omega (arith, w.used_is, w.room, spare size_of (heard_bit d.question) many f h (ap (λ x. not (eqb x 0)) (silent f h n)))

    -- ---- accepting
    module _ (f : ℕ) (h : f < many) where
      alike : (P : Reply → Type 0) → P (reply_of R f) → (r : Reply) → Is 12 (bytes_of R f) r → P r
      alike P p r i = subst P (same_reply (bytes_of R f) (reply_of R f) r (is_laid f h) i) p

      judged : {n : ℕ} → Room d store (bytes_of R f) n → Why d store (bytes_of R f) n
      judged x =
          Unless.passed whole
          (Unless.passed asked
          (Unless.passed (reply_of R f, is_laid f h)
          (Unless.passed (alike (λ r. r.number ≡ d.question.number) (laid_number f ∙ sym w.number_is))
          (Unless.passed (alike (Shaped d.question) (shaped f h)) x))))

      pub takes : (Heard d.question f → ⊥) → Why d store (bytes_of R f) 0
      takes n = judged (Unless.passed (alike (λ r. Heard d.question r.fragment → ⊥) (λ x. n (subst (Heard d.question) (laid_fragment f) x))) (Unless.passed (spare_room f h n) Granted.granted))

      pub repeats : Heard d.question f → Why d store (bytes_of R f) 16
      repeats x = judged (Unless.refused (λ y. y (reply_of R f) (is_laid f h) (subst (Heard d.question) (sym (laid_fragment f)) x)))

    pub no_reply : (s : Bytes) → ((r : Reply) → Is 12 s r → ⊥) → Why d store s 13
    no_reply s n = Unless.passed whole (Unless.passed asked (Unless.refused (λ x. n x.0 x.1)))

    pub foreign : (s : Bytes) (r : Reply) → Is 12 s r → r.number ≢ R.number → Why d store s 14
    foreign s r i n = Unless.passed whole (Unless.passed asked (Unless.passed (r, i) (Unless.refused (λ x. n (x r i ∙ w.number_is)))))

    -- ---- asking
    asks : AskRefusal d store 0
    asks = Unless.passed whole (Unless.passed asked Granted.granted)

    pub waits_for : (f : ℕ) → f < many → (Heard d.question f → ⊥) → (n x : ℕ) → Asks d store n x → (n ≡ 0) × (x ≡ 0)
    waits_for f h u n x k = let y = k.answered z in (z, y.2 ∙ ap said_of (waits d.question.entries d.question.parts y.0 f (rw w.parts_is h) (y.1.unheard f u)))
      where
        z : n ≡ 0
        z = one_ask_refusal d store n 0 k.why asks

    holds : (held : ℕ → Option Reply) → Held d.question store held → (f : ℕ) → f < many → Heard d.question f → held f ≡ some (reply_of R f)
    holds held y f h x = let r = y.heard f x in r.1 ∙ ap some (same_reply (bytes_of R f) r.0 (reply_of R f) (subst (λ s. Is 12 s r.0) (w.only f x).2 r.2) (is_laid f h))

    solves_all : (held : ℕ → Option Reply) → Held d.question store held → ((f : ℕ) → f < many → Heard d.question f)
        → (b : Bool) × (outcome d.question.entries d.question.parts held ≡ said b) × Says (Meaning R) b
    solves_all held y h =
        let es = listed R.list R.text in
        rw (w.entries_is, w.parts_is)
        (solves (HereIn R.register es) (LowerIn R.register es) R.list.count many (omega (arith, a.keeps.some_entry)) (omega (arith, a.cut.layout.some_part)) held
        (λ f k. (reply_of R f, holds held y f k (h f k), subst (λ n. Lawful (HereIn R.register es) (LowerIn R.register es) n many f (reply_of R f)) (listed_length R.list R.text) (depot_lawful R.register a.cut es (keeps_earlier R.list R.text a.keeps) R.number f k))))

    pub answers : ((f : ℕ) → f < many → Heard d.question f) → (n x : ℕ) → Asks d store n x → (n ≡ 0) × (((x ≡ 2) × Meaning R) ⊎ ((x ≡ 1) × (Meaning R → ⊥)))
    answers h n x k = let y = k.answered z in let t = solves_all y.0 y.1 h in (z, go t.0 (y.2 ∙ ap said_of t.1) t.2)
      where
        z : n ≡ 0
        z = one_ask_refusal d store n 0 k.why asks

        go : (b : Bool) → x ≡ said_of (said b) → Says (Meaning R) b → ((x ≡ 2) × Meaning R) ⊎ ((x ≡ 1) × (Meaning R → ⊥))
        go true e (aye y) = inl (e, y)
        go false e (nay y) = inr (e, y)
