-- Condition 3 and the step bound over the depots' own calls: what they sent is what is laid down.
use Prim.Native.Nat.{ℕ, zero, suc, ◌^◌, ◌≤◌, ◌<◌}
use native.Mathlib.Omega.{arith}
use mathlib.Core.Path.{◌≡◌, sym, ap, ◌∙◌, subst}
use mathlib.Core.Bool.{Bool}
use mathlib.Core.Logic.{inl, inr, ◌↔◌}
use mathlib.Core.List.{List}
use lib.ListN.{length}
use Rattle.meaning.specs.Bytes.{Bytes}
use Rattle.meaning.specs.Holds.{Holds}
use Rattle.meaning.specs.Reply.{Reply}
use Rattle.meaning.specs.Register.{parts, rows_in, Cut, joined}
use Rattle.meaning.specs.Says.{Says}
use Rattle.meaning.specs.Entry.{Entry}
use Rattle.meaning.specs.Fragment.{row_count}
use Rattle.meaning.specs.Bound.{Open, step_bound}
use Rattle.meaning.proofs.StepBound.{step_bound_lem}
use Rattle.question.specs.Listed.{listed}
use Rattle.question.proofs.Listed.{listed_length, keeps_earlier}
use Rattle.reply.proofs.Round.{one_reply}
use Rattle.reply.specs.Read.{Is}
use Rattle.desk.specs.Calls.{Accepts}
use Rattle.whole.specs.declared.Record.{Record}
use Rattle.register.specs.Calls.{Event, HandedIn}
use Rattle.register.specs.Round.{Round, call_of, Replied, PartIn, Honest, Roomy, Meaning, total}
use Rattle.register.specs.Promise.{Tells, Faithful, Condition3, StepsBounded}
use Rattle.register.proofs.Laid.{Granting, granting, reply_of, bytes_of, Asked, LaidRoom, LaidHonest, LaidFaithful, sent_is, is_sent, all_asked}
use Rattle.register.proofs.Verdicts.{is_laid, same_reply, laid_fragment}
use Rattle.register.proofs.Trace.{laid_faithful}
use Rattle.register.proofs.Conditions.{readers_last, depot_bytes}

-- a sum is at most another where each of its terms is
total_less : (f g : ℕ → ℕ) (n : ℕ) → ((k : ℕ) → k < n → f k ≤ g k) → total f n ≤ total g n
unfolding total
total_less f g zero h = omega arith
total_less f g (suc n) h = omega (arith, total_less f g n (λ k l. h k (omega arith)), h n (omega arith))

module _ (R : Round) (cut : Cut R.register) (fits : R.number < 2 ^ 32) (p : (f : ℕ) → f < parts R.register → Replied R f) where
  asked : Asked R
  asked = all_asked R cut fits p

  room : (store : Bytes) → Roomy R store → LaidRoom R store
  room store r = omega (arith, total_less (λ f. length (bytes_of R f)) r.size (parts R.register) (λ f h. r.each f h (bytes_of R f) (is_sent R f (p f h))), r.room)

  honest : (l : List Event) → Honest R l → LaidHonest R l
  honest l h s n m r i e = (subst (λ f. f < parts R.register) (sym own) inside, is ∙ ap (reply_of R) (sym own))
    where
      f : ℕ
      f = (h s n m r i e).0

      inside : f < parts R.register
      inside = (h s n m r i e).1

      is : r ≡ reply_of R f
      is = same_reply R asked (bytes_of R f) r (reply_of R f) (subst (λ b. Is 12 b r) (sent_is R f s (h s n m r i e).2) i) (is_laid R asked f inside)

      own : r.fragment ≡ f
      own = ap (λ z. z.fragment) is ∙ laid_fragment R asked f

  -- a part is handed in exactly if its bytes are
  part_bytes : (f : ℕ) (l : List Event) → PartIn R f l → HandedIn (bytes_of R f) l
  part_bytes f l (s, b, h) = subst (λ z. HandedIn z l) (sent_is R f s b) h

  bytes_part : (f : ℕ) → f < parts R.register → (l : List Event) → HandedIn (bytes_of R f) l → PartIn R f l
  bytes_part f k l h = (bytes_of R f, is_sent R f (p f k), h)

  -- and so the replies laid down are the parts' replies, whatever A the question means
  faithful : (A : Type 0) → Meaning R ↔ A → (l : List Event) (d : Record) (store : Bytes) → LaidFaithful R l d store → Faithful R A l d store
  faithful A means l d store w = record {
    waiting = λ f h u. w.waiting f h (λ k. u (bytes_part f h l k));
    answer = λ all n a k. let r = w.answer (λ f h. part_bytes f l (all f h)) n a k in (r.0, tell r.1);
    first = λ f h u s b n e x c. w.first f h (λ k. u (bytes_part f h l k)) n e x (subst (λ z. Accepts d store z n e x) (sent_is R f s b) c);
    further = λ f h k s b n e x c. w.further f h (part_bytes f l k) n e x (subst (λ z. Accepts d store z n e x) (sent_is R f s b) c);
    damaged = w.damaged;
    stranger = w.stranger;
  }
    where
      tell : {a : ℕ} → Tells (Meaning R) a → Tells A a
      tell (inl y) = inl (y.0, means.0 y.1)
      tell (inr y) = inr (y.0, λ h. y.1 (means.1 h))

pub condition_3 : Condition3
condition_3 R cut fits p old d store o r l e x c h = record {
  any = faithful R cut fits p (Meaning R) (λ y. y, λ y. y) l e x w;
  readers = λ a k z same t. faithful R cut fits p (Holds (joined R.register) t.tree (0, 0)) (readers_last R a k z same t (joined R.register) (0, 0)) l e x w;
}
  where
    w : LaidFaithful R l e x
    w = laid_faithful R (asked R cut fits p) old d store o (room R cut fits p store r) l e x c (honest R cut fits p l h)

-- ---- the step bound
pub steps_bounded : StepsBounded
steps_bounded R f s fits b = record {
  is_open = bound.0;
  tells = bound.1;
  bounded = λ r i. subst (λ n. length r.steps ≤ step_bound n (rows_in R.register f) bound.0) (listed_length R.list R.text)
      (subst (λ t. length t.steps ≤ step_bound (length es) (rows_in R.register f) bound.0) (sym (is r i)) bound.2);
}
  where
    es : List (Entry Bytes)
    es = listed R.list R.text

    c : Replied R f
    c = b.called

    g : Granting (call_of R f)
    g = granting (call_of R f) c.work c.out c.size c.work' c.out' c.replying

    bound : (is_open : ℕ → Bool) × ((k : ℕ) → k < row_count (R.register.fragment f) → Says (Open (rows_in R.register f) k) (is_open k))
        × (length (reply_of R f).steps ≤ step_bound (length es) (rows_in R.register f) is_open)
    bound = step_bound_lem R.number f (R.register.fragment f) g.sound es (keeps_earlier R.list R.text g.keeps)

    is : (r : Reply) → Is 12 s r → r ≡ reply_of R f
    is r i =
        let j = subst (λ z. Is 12 z (reply_of R f)) (sym b.is) (depot_bytes (call_of R f) fits c.work c.out c.size c.work' c.out' c.replying) in
        one_reply 12 r (reply_of R f) i.formed j.formed i.fits j.fits (i.writes ∙ sym j.writes)
