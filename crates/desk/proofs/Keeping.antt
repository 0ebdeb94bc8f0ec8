-- A successful opening is whole; accepting and a refused opening keep wholeness.
use Prim.Native.Nat.{ℕ, ◌+◌, ◌-◌, ◌≤◌, ◌<◌}
use native.Mathlib.Omega.{arith}
use native.Mathlib.Decide.{ℕ_discrete, dec_lt}
use mathlib.Core.Path.{◌≡◌, refl, sym, ap, ◌∙◌, subst}
use mathlib.Core.Logic.{◌≢◌}
use mathlib.Core.List.{List, ◌++◌}
use lib.ListN.{length, get_or, set, take, drop, replicate, length-append, length-drop, take-append-drop, get_or-replicate}
use lib.Seq.{length-take-le, take-append-le, drop-append-le, take-append_seam, drop_at, get_or-set_same, get_or-set_other}
use Rattle.meaning.specs.Bytes.{Bytes}
use Rattle.meaning.specs.Reply.{Reply}
use Rattle.meaning.specs.Refused.{Unless}
use Rattle.whole.specs.Tiles.{In, Tiled}
use Rattle.whole.specs.Whole.{OpenRules, layout_of, Shaped, Heard, start_of, size_of, part_of, Own, Opened, Whole, Sizes}
use Rattle.desk.specs.Changed.{opened_as, noted, put_at}
use Rattle.whole.proofs.Pieces.{own_reply, reply_own}
use Rattle.reply.specs.Read.{Is}
use Rattle.desk.specs.Calls.{Why}
use Rattle.desk.specs.Promise.{FreshWhole, AfterTheLast, OpeningWhole, RefusedOpeningKeeps, AcceptingKeeps}
use Rattle.whole.specs.declared.Question.{Question}
use Rattle.whole.specs.declared.Record.{Record}
use Rattle.desk.proofs.Unique.{one_open_refusal, Passed, passed}
use Rattle.meaning.proofs.Refused.{through}

-- ---- bytes put at a place
-- a part of the front does not see what comes after
front : {A : Type 0} (p n : ℕ) (xs ys : List A) → p + n ≤ length xs → take n (drop p (xs ++ ys)) ≡ take n (drop p xs)
front p n xs ys h = ap (take n) (drop-append-le p xs ys (omega arith)) ∙ take-append-le n (drop p xs) ys (omega (arith, length-drop p xs))

module _ (u : ℕ) (s store : Bytes) (h : u + length s ≤ length store) where
  front_length : length (take u store) ≡ u
  front_length = length-take-le u store (omega arith)

  pub put_length : length (put_at u s store) ≡ length store
  put_length = omega (arith, front_length, length-append (take u store) (s ++ drop (u + length s) store), length-append s (drop (u + length s) store), length-drop (u + length s) store)

  pub put_before : (p n : ℕ) → p + n ≤ u → take n (drop p (put_at u s store)) ≡ take n (drop p store)
  put_before p n k =
      front p n (take u store) (s ++ drop (u + length s) store) (omega (arith, front_length))
      ∙ sym (front p n (take u store) (drop u store) (omega (arith, front_length)))
      ∙ ap (λ l. take n (drop p l)) (take-append-drop u store)

  pub put_here : take (length s) (drop u (put_at u s store)) ≡ s
  put_here = ap (take (length s)) (drop_at (take u store) (s ++ drop (u + length s) store) u front_length) ∙ take-append_seam s (drop (u + length s) store)

-- ---- opening
abbrev zeros : List ℕ
zeros = replicate 32 0

silent : {X : Type 0} (f : ℕ) → (f < 32) × (get_or zeros f 0 ≢ 0) → X
silent f h = absurd (h.1 (get_or-replicate 32 f 0 0 h.0))

pub opening_whole : OpeningWhole
opening_whole d layout entries number a o store = subst (λ z. Whole z store) (sym (o.opened refl)) (Whole.opened (λ z. omega (arith, above, z)) (record {
  rules = record { few_parts = k.layout_keeps.most; keeps = subst (λ z. OpenRules z entries) (sym whole) k };
  laid = record { fits = omega arith; replies = λ f h. silent f h; tiled = record { inside = λ f h. silent f h; covered = λ x h. absurd (omega arith); apart = λ f g x i j. silent f i.is } };
}))
  where
    k : OpenRules layout entries
    k = (through (λ z. omega (arith, z)) o.why).0

    above : d.last < number
    above = (through (λ z. omega (arith, z)) (through (λ z. omega (arith, z)) o.why).1).0

    whole : layout_of (opened_as layout entries number).question ≡ layout
    whole = take-append_seam layout (replicate (32 - length layout) 0)

pub fresh_whole : FreshWhole
fresh_whole store = Whole.closed refl refl refl (λ f h. silent f h)

pub after_the_last : AfterTheLast
after_the_last d layout entries number n a l m k o = one_open_refusal d layout entries number n 11 o.why (Unless.passed k (Unless.refused (λ h. omega (arith, l, m, h))))

pub refused_opening_keeps : RefusedOpeningKeeps
refused_opening_keeps d layout entries number m a r o store w = subst (λ z. Whole z store) (sym (o.refused r)) w

-- ---- accepting
-- a fragment's reply is put at the end of the used part
module _ (d : Record) (store s : Bytes) (wide : Sizes d.question) (p : Passed d store s) (o : Opened d.question d.used store) where
  abbrev pub f : ℕ
  f = p.reply.fragment

  abbrev pub q : Question
  q = d.question

  abbrev pub q' : Question
  q' = (noted d f (length s)).question

  pub low : f < 32
  low = omega (arith, p.shaped.fragment_in, o.rules.few_parts)

  pub set_other : (l : List ℕ) (x : ℕ) {g : ℕ} → g ≢ f → get_or (set l f x) g 0 ≡ get_or l g 0
  set_other l x {g} n = get_or-set_other l f g x 0 n

  pub heard_new : Heard q' f
  heard_new = (low, λ z. omega (arith, get_or-set_same q.heard f 1 0 (omega (arith, low, wide.heard_all)), z))

  pub heard_old : {g : ℕ} → g ≢ f → Heard q' g → Heard q g
  heard_old n h = (h.0, λ z. h.1 (set_other q.heard 1 n ∙ z))

  pub other : {g : ℕ} → Heard q g → g ≢ f
  other h e = p.unheard (subst (Heard q) e h)

  pub heard_kept : {g : ℕ} → Heard q g → Heard q' g
  heard_kept h = (h.0, λ z. h.1 (sym (set_other q.heard 1 (other h)) ∙ z))

  place_new : start_of q' f ≡ d.used
  place_new = get_or-set_same q.place f d.used 0 (omega (arith, low, wide.place_all))

  size_new : size_of q' f ≡ length s
  size_new = get_or-set_same q.size f (length s) 0 (omega (arith, low, wide.size_all))

  place_kept : {g : ℕ} → g ≢ f → start_of q' g ≡ start_of q g
  place_kept n = set_other q.place d.used n

  size_kept : {g : ℕ} → g ≢ f → size_of q' g ≡ size_of q g
  size_kept n = set_other q.size (length s) n

  abbrev pub store' : Bytes
  store' = put_at d.used s store

  pub part_new : part_of q' store' f ≡ s
  part_new = rw (place_new, size_new) (put_here d.used s store p.room)

  pub part_kept : {g : ℕ} → Heard q g → part_of q' store' g ≡ part_of q store g
  part_kept {g} h = rw (place_kept (other h), size_kept (other h)) (put_before d.used s store p.room (start_of q g) (size_of q g) (o.laid.tiled.inside g h))

  -- layout, entries and number are the same
  shaped_kept : {r : Reply} → Shaped q r → Shaped q' r
  shaped_kept x = record { fragment_in = x.fragment_in; entries_same = x.entries_same; children = x.children }

  own_new : Own q' (part_of q' store' f) f
  own_new = reply_own (record { reply = p.reply; free = record { is = subst (λ z. Is 12 z p.reply) (sym part_new) p.is; number_same = p.number_same; shaped = shaped_kept p.shaped }; own = refl })

  own_kept : {g : ℕ} → Heard q g → Own q' (part_of q' store' g) g
  own_kept {g} h =
      let w = own_reply (o.laid.replies g h) in
      reply_own (record { reply = w.reply; free = record { is = subst (λ z. Is 12 z w.reply) (sym (part_kept h)) w.free.is; number_same = w.free.number_same; shaped = shaped_kept w.free.shaped }; own = w.own })

  replies_kept : (g : ℕ) → Heard q' g → Own q' (part_of q' store' g) g
  replies_kept g h = go (ℕ_discrete g f)
    where
      go : Dec (g ≡ f) → Own q' (part_of q' store' g) g
      go (yes e) = subst (λ z. Own q' (part_of q' store' z) z) (sym e) own_new
      go (no n) = own_kept (heard_old n h)

  abbrev InOld : ℕ → ℕ → Type 0
  InOld = In (Heard q) (start_of q) (size_of q)

  abbrev InNew : ℕ → ℕ → Type 0
  InNew = In (Heard q') (start_of q') (size_of q')

  in_kept : {g x : ℕ} → InOld g x → InNew g x
  in_kept i = record { is = heard_kept i.is; from = omega (arith, i.from, place_kept (other i.is)); to = omega (arith, i.to, place_kept (other i.is), size_kept (other i.is)) }

  in_old : {g x : ℕ} → g ≢ f → InNew g x → InOld g x
  in_old n i = record { is = heard_old n i.is; from = omega (arith, i.from, place_kept n); to = omega (arith, i.to, place_kept n, size_kept n) }

  -- what is not f's lies in the part used before
  before : {g x : ℕ} → g ≢ f → InNew g x → x < d.used
  before {g} n i = omega (arith, (in_old n i).to, o.laid.tiled.inside g (in_old n i).is)

  after : {x : ℕ} → InNew f x → d.used ≤ x
  after i = omega (arith, i.from, place_new)

  tiled_kept : Tiled (Heard q') (start_of q') (size_of q') (d.used + length s)
  tiled_kept = record { inside = λ g h. inside g h (ℕ_discrete g f); covered = λ x h. covered x h (dec_lt x d.used); apart = λ g h x i j. apart g h x i j (ℕ_discrete g f) (ℕ_discrete h f) }
    where
      inside : (g : ℕ) → Heard q' g → Dec (g ≡ f) → start_of q' g + size_of q' g ≤ d.used + length s
      inside g h (yes e) = subst (λ z. start_of q' z + size_of q' z ≤ d.used + length s) (sym e) (omega (arith, place_new, size_new))
      inside g h (no n) = omega (arith, place_kept n, size_kept n, o.laid.tiled.inside g (heard_old n h))

      covered : (x : ℕ) → x < d.used + length s → Dec (x < d.used) → (g : ℕ) × InNew g x
      covered x h (yes k) = let c = o.laid.tiled.covered x k in (c.0, in_kept c.1)
      covered x h (no k) = (f, record { is = heard_new; from = omega (arith, place_new, k); to = omega (arith, place_new, size_new, h) })

      apart : (g h x : ℕ) → InNew g x → InNew h x → Dec (g ≡ f) → Dec (h ≡ f) → g ≡ h
      apart g h x i j (yes a) (yes b) = a ∙ sym b
      apart g h x i j (yes a) (no b) = absurd (omega (arith, before b j, after (subst (λ z. InNew z x) a i)))
      apart g h x i j (no a) (yes b) = absurd (omega (arith, before a i, after (subst (λ z. InNew z x) b j)))
      apart g h x i j (no a) (no b) = o.laid.tiled.apart g h x (in_old a i) (in_old b j)

  pub opened_kept : Opened q' (d.used + length s) store'
  opened_kept = record {
    rules = record { few_parts = o.rules.few_parts; keeps = o.rules.keeps };
    laid = record { fits = omega (arith, put_length d.used s store p.room, p.room); replies = replies_kept; tiled = tiled_kept };
  }

pub accepting_keeps : AcceptingKeeps
accepting_keeps d store s m a x wide c w = go (ℕ_discrete m 0)
  where
    held : Passed d store s → Whole d store → Opened d.question d.used store
    held p (Whole.closed z l u n) = absurd (p.asked z)
    held p (Whole.opened n o) = o

    taken : (p : Passed d store s) → m ≡ 0 → Whole a x
    taken p z = rw ((c.taken z p.reply p.is).0, (c.taken z p.reply p.is).1) (Whole.opened p.asked (opened_kept d store s wide p (held p w)))

    go : Dec (m ≡ 0) → Whole a x
    go (yes z) = taken (passed d store s (subst (Why d store s) z c.why)) z
    go (no n) = rw ((c.refused n).0, (c.refused n).1) w
