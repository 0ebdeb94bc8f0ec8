-- What the tests of record and store have shown, on plain values.
use Prim.Native.Nat.{ℕ, ◌+◌, ◌-◌, ◌≤◌, ◌<◌}
use mathlib.Core.Path.{◌≡◌, refl, sym, ap, ◌∙◌, subst}
use mathlib.Core.Bool.{Bool, false}
use mathlib.Core.List.{Memᴰ}
use mathlib.Core.Logic.{◌≢◌}
use native.Mathlib.Omega.{arith}
use native.Mathlib.Nat.{min-le_left}
use native.Mathlib.Decide.{dec_lt, ℕ_discrete}
use lib.ListN.{length, get_or, take, drop, length-take}
use Rattle.std.specs.Prelude.{Result, Ok, Err, IfOk, MatchResult}
use Rattle.meaning.specs.Says.{Says, nay}
use Rattle.meaning.specs.Bytes.{Bytes}
use Rattle.meaning.specs.Reply.{Reply}
use Rattle.meaning.specs.Register.{children_of}
use Rattle.meaning.proofs.Says.{says_iff, says_at}
use Rattle.reply.specs.Read.{Is, Checks}
use Rattle.reply.specs.inner.Checked.{Checked}
use Rattle.reply.specs.inner.Decode.{in_at}
use Rattle.reply.specs.inner.Fields.{HeadIs}
use Rattle.reply.specs.declared.Head.{Head}
use Rattle.reply.proofs.Round.{Fields, fields_of, is_the, checked_of}
use Rattle.meaning.specs.Refused.{refused, passed, granted}
use Rattle.whole.specs.Whole.{layout_of, Rules, Shaped, Heard, start_of, size_of, part_of, Own, Laid, Opened, Whole, closed, opened}
use Rattle.whole.specs.inner.Steps.{Fitting, Judged, number_of, judge_number, Tested}
use Rattle.whole.specs.declared.Question.{Question}
use Rattle.whole.specs.declared.Record.{Record}
use Rattle.whole.specs.declared.Unfit.{Unfit}
use Rattle.whole.specs.declared.Unfit.TheVariants.{NotAReply, OtherQuestion, Misfit}
use Rattle.whole.proofs.Tiles.{tested_tiled, tiled_tested}
use Rattle.whole.proofs.Children.{mem_place, place_mem, child_has, has_child}

-- ---- a reply
-- bytes are one reply only
pub one_of : (s : Bytes) (r t : Reply) → Is 12 s r → Is 12 s t → r ≡ t
one_of s r t a b = is_the 12 s r a ∙ sym (is_the 12 s t b)

passed_check : {s : Bytes} {c : ℕ} → Checks s c → c ≡ 0 → (r : Reply) × Is 12 s r
passed_check (refused h) e = absurd (omega arith)
passed_check (passed t granted) e = t

pub failed_check : {q : Question} {s : Bytes} {c : ℕ} → Checks s c → c ≢ 0 → Judged q s 13
failed_check (refused h) n = refused h
failed_check (passed t granted) n = absurd (n refl)

module _ (q : Question) (s : Bytes) (r : Reply) (i : Is 12 s r) (h : Head) (H : HeadIs s h) where
  f : Fields 12 s r
  f = fields_of 12 s r i

  one_reply : (t : Reply) → Is 12 s t → t ≡ r
  one_reply t k = one_of s t r k i

  pub number_is : h.number ≡ r.number
  number_is = H.number_is ∙ f.number_is

  pub fragment_is : h.fragment ≡ r.fragment
  fragment_is = H.fragment_is ∙ f.fragment_is

  pub entries_is : h.entries ≡ r.entries
  entries_is = H.entries_is ∙ f.entries_is

  ins_are : h.ins ≡ length r.ins
  ins_are = H.ins_is ∙ f.ins_are

  numbered : h.number ≡ q.number → (t : Reply) → Is 12 s t → t.number ≡ q.number
  numbered e t k = ap (λ (z : Reply). z.number) (one_reply t k) ∙ sym number_is ∙ e

  pub shaped_fitting : Shaped q r → Fitting q s h
  shaped_fitting p = record {
    fragment_in = omega (arith, fragment_is, p.fragment_in);
    entries_same = entries_is ∙ p.entries_same;
    only = λ j l.
        let b : j < length r.ins = omega (arith, ins_are) in
        let c = child_has (layout_of q) r.fragment (get_or r.ins j 0) ((p.children (get_or r.ins j 0)).0 (place_mem r.ins j b)) in
        rw (f.in_is j b, fragment_is) (record { inside = c.0; parent = c.1 });
    all = λ g c.
        let m = mem_place r.ins g ((p.children g).1 (has_child (layout_of q) r.fragment g c.inside (c.parent ∙ fragment_is))) in
        record { at = m.at; less = omega (arith, ins_are, m.less); is = f.in_is m.at m.less ∙ m.is };
  }

  fitting_shaped : Fitting q s h → Shaped q r
  fitting_shaped p = record { fragment_in = omega (arith, fragment_is, p.fragment_in); entries_same = sym entries_is ∙ p.entries_same; children = λ g. (to g, from g) }
    where
      to : (g : ℕ) → Memᴰ g r.ins → Memᴰ g (children_of (layout_of q) r.fragment)
      to g m =
          let w = mem_place r.ins g m in
          let o = p.only w.at (omega (arith, ins_are, w.less)) in
          let x : in_at s w.at ≡ g = f.in_is w.at w.less ∙ w.is in
          has_child (layout_of q) r.fragment g (rw x at o.inside) ((rw x at o.parent) ∙ fragment_is)

      from : (g : ℕ) → Memᴰ g (children_of (layout_of q) r.fragment) → Memᴰ g r.ins
      from g m =
          let c = child_has (layout_of q) r.fragment g m in
          let w = p.all g (record { inside = c.0; parent = c.1 ∙ sym fragment_is }) in
          let b : w.at < length r.ins = omega (arith, ins_are, w.less) in
          subst (λ k. Memᴰ k r.ins) (sym (f.in_is w.at b) ∙ w.is) (place_mem r.ins w.at b)

-- the judgement of bytes that passed the check
module _ {s : Bytes} {c : ℕ} (k : Checks s c) (z : c ≡ 0) where
  abbrev read : (r : Reply) × Is 12 s r
  read = passed_check k z

  pub checked : Checked 12 s
  checked = checked_of 12 s read.0 read.1

  module _ (q : Question) {h : Head} (H : HeadIs s h) where
    pub wrong_number : h.number ≢ q.number → Judged q s 14
    wrong_number n = passed read (refused (λ a. n (number_is q s read.0 read.1 h H ∙ a read.0 read.1)))

    pub misfit : h.number ≡ q.number → (Fitting q s h → ⊥) → Judged q s 15
    misfit e n = passed read (passed (numbered q s read.0 read.1 h H e) (refused (λ a. n (shaped_fitting q s read.0 read.1 h H (a read.0 read.1)))))

    pub well : h.number ≡ q.number → Fitting q s h → Judged q s 0
    well e p = passed read (passed (numbered q s read.0 read.1 h H e)
        (passed (λ t i. subst (Shaped q) (one_of s read.0 t read.1 i) (fitting_shaped q s read.0 read.1 h H p)) granted))

-- the bytes s are the reply r, free of 13, 14 and 15
pub record Free (q : Question) (s : Bytes) (r : Reply) : Type 0 where
  pub is : Is 12 s r
  pub number_same : r.number ≡ q.number
  pub shaped : Shaped q r

-- what a judgement says of being free
pub judged_free : {q : Question} {s : Bytes} {c : ℕ} → Judged q s c → c ≡ 0 → (r : Reply) × Free q s r
judged_free (refused h) e = absurd (omega arith)
judged_free (passed t (refused h)) e = absurd (omega arith)
judged_free (passed t (passed n (refused h))) e = absurd (omega arith)
judged_free (passed t (passed n (passed k granted))) e = (t.0, record { is = t.1; number_same = n t.0 t.1; shaped = k t.0 t.1 })

pub free_judged : {q : Question} {s : Bytes} {r : Reply} → Free q s r → Judged q s 0
free_judged {q} {s} {r} f = passed (r, f.is) (passed (λ t i. ap (λ (z : Reply). z.number) (one_of s t r i f.is) ∙ f.number_same) (passed (λ t i. subst (Shaped q) (one_of s r t f.is i) f.shaped) granted))

pub judged_not : {q : Question} {s : Bytes} {c : ℕ} → Judged q s c → c ≢ 0 → (r : Reply) → Free q s r → ⊥
judged_not (refused h) e t g = h (t, g.is)
judged_not {q} {s} (passed u (refused h)) e t g = h (λ r i. ap (λ (z : Reply). z.number) (one_of s r t i g.is) ∙ g.number_same)
judged_not {q} {s} (passed u (passed n (refused h))) e t g = h (λ r i. subst (Shaped q) (one_of s t r g.is i) g.shaped)
judged_not (passed t (passed n (passed k granted))) e u g = e refl

-- ---- one fragment's bytes
pub heard_or_not : (q : Question) (f : ℕ) → Dec (Heard q f)
heard_or_not q f = go (dec_lt f 32) (ℕ_discrete (get_or q.heard f 0) 0)
  where
    go : Dec (f < 32) → Dec (get_or q.heard f 0 ≡ 0) → Dec (Heard q f)
    go (yes l) (yes z) = no (λ h. h.1 z)
    go (yes l) (no n) = yes (l, n)
    go (no l) z = no (λ h. l h.0)

-- the reply that they are
pub record OwnReply (q : Question) (s : Bytes) (f : ℕ) : Type 0 where
  pub reply : Reply
  pub free : Free q s reply
  pub own : reply.fragment ≡ f

pub own_reply : {q : Question} {s : Bytes} {f : ℕ} → Own q s f → OwnReply q s f
own_reply o = let t = judged_free o.judged refl in record { reply = t.0; free = t.1; own = o.own t.0 t.1.is }

pub reply_own : {q : Question} {s : Bytes} {f : ℕ} → OwnReply q s f → Own q s f
reply_own {q} {s} o = record { judged = free_judged o.free; own = λ r i. ap (λ (z : Reply). z.fragment) (one_of s r o.reply i o.free.is) ∙ o.own }

pub part_is : (q : Question) (store : Bytes) (f p n : ℕ) → p ≡ start_of q f → n ≡ size_of q f → take (p + n - p) (drop p store) ≡ part_of q store f
part_is q store f p n ep en = let e : p + n - p ≡ n = omega arith in rw (e, ep, en) refl

pub number_some : (e : Unfit) → number_of e ≢ 0
number_some NotAReply z = absurd (omega arith)
number_some OtherQuestion z = absurd (omega arith)
number_some Misfit z = absurd (omega arith)

-- b answers whether the reply judged is f's
pub judged_own : (q : Question) (s : Bytes) (f : ℕ) (r : Result Head Unfit) {b : Bool} {P : Head → Type 0} → Judged q s (judge_number r) → IfOk r (λ h. HeadIs s h)
    → MatchResult r P (λ e. b ≡ false) → ((h : Head) → P h → Says (h.fragment ≡ f) b) → Says (Own q s f) b
judged_own q s f (Ok h) j H m k =
    let t = judged_free j refl in
    let x : h.fragment ≡ t.0.fragment = fragment_is q s t.0 t.1.is h H in
    says_iff (λ y. reply_own (record { reply = t.0; free = t.1; own = sym x ∙ y })) (λ o. x ∙ o.own t.0 t.1.is) (k h m)
judged_own q s f (Err e) j H m k = says_at m (nay (λ o. let w = own_reply o in judged_not j (number_some e) w.reply w.free))

-- ---- the whole store
module _ (q : Question) (used : ℕ) (store : Bytes) where
  abbrev Owned : Type 0
  Owned = (f : ℕ) → Heard q f → Own q (part_of q store f) f

  some_size : Owned → (f : ℕ) → Heard q f → 0 < size_of q f
  some_size o f h =
      let w = own_reply (o f h) in
      let k = checked_of 12 (part_of q store f) w.reply w.free.is in
      omega (arith, k.head, length-take (size_of q f) (drop (start_of q f) store), min-le_left (size_of q f) (length (drop (start_of q f) store)))

  pub laid_tested : Laid q used store → Tested (Heard q) (start_of q) (size_of q) used
  laid_tested l = tiled_tested (Heard q) (start_of q) (size_of q) used (some_size l.replies) l.tiled

  pub laid_says : {b : Bool} → used ≤ length store → Tested (Heard q) (start_of q) (size_of q) used → Says Owned b → Says (Laid q used store) b
  laid_says r t o = says_iff (λ k. record { fits = r; replies = k; tiled = tested_tiled (Heard q) (start_of q) (size_of q) used (some_size k) t }) (λ l. l.replies) o

-- ---- whole
not_open : {n : ℕ} → (n ≢ 0 → ⊥) → n ≡ 0
not_open {n} h = go (ℕ_discrete n 0)
  where
    go : Dec (n ≡ 0) → n ≡ 0
    go (yes e) = e
    go (no m) = absurd (h m)

module _ (d : Record) (store : Bytes) where
  pub whole_fresh : {b : Bool} → (d.question.number ≢ 0 → ⊥) → d.last ≡ 0 → d.used ≡ 0 → Says ((f : ℕ) → Heard d.question f → ⊥) b → Says (Whole d store) b
  whole_fresh e l u q = says_iff (λ h. closed (not_open e) l u h) back q
    where
      back : Whole d store → (f : ℕ) → Heard d.question f → ⊥
      back (closed z x y f) = f
      back (opened z o) = absurd (e z)

  pub not_fresh : (d.question.number ≢ 0 → ⊥) → (d.last ≡ 0 → d.used ≡ 0 → ⊥) → Whole d store → ⊥
  not_fresh e n (closed z x y f) = n x y
  not_fresh e n (opened z o) = e z

  pub whole_open : {b : Bool} → d.question.number ≢ 0 → Rules d.question → Says (Laid d.question d.used store) b → Says (Whole d store) b
  whole_open n r q = says_iff (λ l. opened n (record { rules = r; laid = l })) back q
    where
      back : Whole d store → Laid d.question d.used store
      back (closed z x y f) = absurd (n z)
      back (opened z o) = o.laid

  pub was_open : Whole d store → d.question.number ≢ 0 → Opened d.question d.used store
  was_open (closed z x y f) n = absurd (n z)
  was_open (opened z o) n = o
