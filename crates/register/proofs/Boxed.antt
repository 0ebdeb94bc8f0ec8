-- Condition 2: a register in one box.
use Prim.Native.Nat.{ℕ, ◌+◌, ◌-◌, ◌*◌, ◌^◌, ◌≤◌, ◌<◌}
use native.Mathlib.Omega.{arith}
use mathlib.Core.Path.{◌≡◌, refl, sym, ap, ◌∙◌, subst}
use mathlib.Core.Logic.{◌⊎◌, inl, inr, ◌↔◌}
use mathlib.Core.List.Memᴰ
use mathlib.Core.List.{List, [], ◌∷◌, ◌++◌, Memᴰ}
use lib.ListN.{length, take, drop}
use lib.Seq.{take-append_seam}
use lib.Dec.{eqb}
use mathlib.Core.Bool.{cond}
use Rattle.meaning.specs.Bytes.{Bytes}
use Rattle.meaning.specs.Entry.{term}
use Rattle.meaning.specs.Holds.{Holds}
use Rattle.meaning.specs.Fragment.{Fragment, Sound, row_count, rows_of, alone, NoStandIn}
use Rattle.meaning.specs.Reply.{laid_down}
use Rattle.question.specs.declared.List as L
use Rattle.question.specs.Listed.{Keeps, listed}
use Rattle.reader.specs.Packed.{placed_entries, packed}
use Rattle.reader.specs.Read.{Written, ReadRefusal, Read}
use Rattle.reader.proofs.Outcome.{one_read, taken_list, read_keeps}
use Rattle.reply.specs.Read.{Is}
use Rattle.reply.proofs.Round.{size_is}
use Rattle.depot.specs.Answer.{call, Answered}
use Rattle.question.proofs.Listed.{keeps_earlier}
use Rattle.meaning.proofs.StepBound.{no_steps}
use Rattle.depot.proofs.Promised.{never_eight}
use Rattle.meaning.specs.Refused.{Unless, Granted}
use Rattle.desk.specs.Calls.{Opens, Accepts}
use Rattle.desk.proofs.Unique.{one_open_refusal}
use Rattle.whole.specs.declared.Record.{Record}
use Rattle.register.specs.Calls.{Event, Calls}
use Rattle.register.specs.Round.{Round, call_of, total, Meaning}
use Rattle.register.specs.Promise.{OneBox, AllTaken, own_size, Condition2}
use Rattle.register.proofs.Laid.{reply_of, bytes_of, Asked, LaidRoom, LaidHonest}
use Rattle.register.proofs.Verdicts.{is_laid, same_reply, laid_fragment, laid_entries}
use Rattle.register.proofs.Trace.{laid_faithful, handed_bytes}
use Rattle.register.proofs.Alone.{boxed, no_ins, boxed_cut, alone_joined}
use Rattle.register.proofs.Conditions.{readers_last}

module _ (t : Bytes) (taken : ReadRefusal t 0) (written : Written t) (F : Fragment) (sound : Sound 0 F) (none : NoStandIn F) (number : ℕ) (some : 0 < number) (fits : number < 2 ^ 32) where
  abbrev tree_list : L.List
  tree_list = packed (placed_entries written.tree)

  reads : Read t (record { refusal = 0; list = tree_list })
  reads = taken_list taken written

  abbrev R : Round
  R = record { register = boxed F; list = tree_list; text = t; number = number }

  keeps : Keeps tree_list t
  keeps = read_keeps t tree_list reads

  nothing_left : length (reply_of R 0).steps ≡ 0
  nothing_left = no_steps 0 F sound none (listed tree_list t) (keeps_earlier tree_list t keeps) number

  asked : Asked R
  asked = record {
    cut = boxed_cut F sound none;
    keeps = keeps;
    some_number = some;
    number_fits = fits;
    few_steps = λ f h. subst (λ z. length (reply_of R z).steps ≤ 4096) (zeroth f h) (omega (arith, nothing_left));
  }
    where
      zeroth : (f : ℕ) → f < 1 → 0 ≡ f
      zeroth f h = omega arith

  abbrev own : ℕ
  own = own_size (length (placed_entries written.tree))

  short : length (bytes_of R 0) ≤ own
  unfolding laid_down packed
  short =
      let w = (is_laid R asked 0 (omega arith)).formed in
      let e = size_is 12 (reply_of R 0) w.v_all w.d_all in
      omega (arith, e, nothing_left, no_ins F sound none, laid_entries R asked 0)

  roomy : (store : Bytes) → own ≤ length store → LaidRoom R store
  unfolding total
  roomy store h = omega (arith, short, h)

  -- the one reply handed in
  honest : (n : ℕ) → LaidHonest R (Event.handed (bytes_of R 0) n ∷ [])
  honest n s m (Memᴰ.tail k) r i e = absurd (Memᴰ.not-nil k)
  honest n s m (Memᴰ.head k) r i e = (subst (λ z. z < 1) (sym zero_is) (omega arith), is ∙ ap (reply_of R) (sym zero_is))
    where
      is : r ≡ reply_of R 0
      is = same_reply R asked (bytes_of R 0) r (reply_of R 0) (subst (λ b. Is 12 b r) (ap handed_bytes k) i) (is_laid R asked 0 (omega arith))

      zero_is : r.fragment ≡ 0
      zero_is = ap (λ z. z.fragment) is ∙ laid_fragment R asked 0

  -- ---- the calls in turn
  module _ (old : Record) (above : old.last < number) (work : List ℕ) (out store : Bytes)
      (memory : 4 * (row_count F * length (placed_entries written.tree)) + 12288 ≤ length work) (buffer : own ≤ length out) (room : own ≤ length store)
      (b : OneBox t F old number work out store) where
    is_read : b.read ≡ record { refusal = 0; list = tree_list }
    is_read = one_read t b.read (record { refusal = 0; list = tree_list }) b.reading reads

    is_list : b.read.list ≡ tree_list
    is_list = ap (λ z. z.list) is_read

    replied : Answered (call_of R 0) work out b.reply_refusal b.reply_size b.work' b.out'
    replied = subst (λ l. Answered (call l t F 0 number) work out b.reply_refusal b.reply_size b.work' b.out') is_list b.replying

    reply_taken : b.reply_refusal ≡ 0
    unfolding packed
    reply_taken = never_eight (call_of R 0) work out b.reply_refusal b.reply_size b.work' b.out' replied (record { keeps = keeps; asked = some; sound = sound }) (record { memory = memory; room = omega (arith, short, buffer) }) none

    is_size : b.reply_size ≡ length (bytes_of R 0)
    is_size = replied.size_is ∙ ap (λ r. cond (eqb r 0) (length (bytes_of R 0)) 0) reply_taken

    is_out : b.out' ≡ bytes_of R 0 ++ drop (length (bytes_of R 0)) out
    is_out = replied.buffer ∙ ap (λ r. cond (eqb r 0) (bytes_of R 0 ++ drop (length (bytes_of R 0)) out) out) reply_taken

    is_reply : take b.reply_size b.out' ≡ bytes_of R 0
    is_reply = rw (is_size, is_out) (take-append_seam (bytes_of R 0) (drop (length (bytes_of R 0)) out))

    opening : Opens old (255 ∷ []) tree_list.count number b.open_refusal b.opened
    opening = subst (λ l. Opens old (255 ∷ []) l.count number b.open_refusal b.opened) is_list b.opening

    open_taken : b.open_refusal ≡ 0
    open_taken = one_open_refusal old (255 ∷ []) tree_list.count number b.open_refusal 0 opening.why
        (Unless.passed (record { layout_keeps = (boxed_cut F sound none).layout; some_entry = keeps.some_entry; few_entries = keeps.most }) (Unless.passed above Granted.granted))

    opened : Opens old (255 ∷ []) tree_list.count number 0 b.opened
    opened = subst (λ n. Opens old (255 ∷ []) tree_list.count number n b.opened) open_taken opening

    accepting : Accepts b.opened store (bytes_of R 0) b.accept_refusal b.accepted b.stored
    accepting = subst (λ s. Accepts b.opened store s b.accept_refusal b.accepted b.stored) is_reply b.accepting

    accept_taken : b.accept_refusal ≡ 0
    accept_taken =
        (laid_faithful R asked old b.opened store opened (roomy store room) [] b.opened store Calls.none (λ s n m. absurd (Memᴰ.not-nil m))
        ).first 0 (omega arith) (λ h. Memᴰ.not-nil h.1) b.accept_refusal b.accepted b.stored accepting

    answered : (b.ask_refusal ≡ 0) × (((b.says ≡ 2) × Meaning R) ⊎ ((b.says ≡ 1) × (Meaning R → ⊥)))
    answered =
        (laid_faithful R asked old b.opened store opened (roomy store room) (Event.handed (bytes_of R 0) b.accept_refusal ∷ []) b.accepted b.stored
        (Calls.hand (bytes_of R 0) b.accept_refusal accepting Calls.none) (honest b.accept_refusal)
        ).answer (λ f h. (b.accept_refusal, Memᴰ.head (ap (λ z. Event.handed (bytes_of R z) b.accept_refusal) (zeroth f h)))) b.ask_refusal b.says b.asking
      where
        zeroth : (f : ℕ) → f < 1 → f ≡ 0
        zeroth f h = omega arith

    meant : Meaning R ↔ Holds (alone (rows_of F)) written.tree 0
    meant =
        let j = alone_joined F sound none (term (listed tree_list t) (tree_list.count - 1)) in
        let k = readers_last R (record { refusal = 0; list = tree_list }) reads refl refl written (alone (rows_of F)) 0 in
        (λ y. k.0 (j.0 y), λ y. j.1 (k.1 y))

    pub right : AllTaken (Holds (alone (rows_of F)) written.tree 0) b
    right = record {
      read_taken = ap (λ z. z.refusal) is_read;
      reply_taken = reply_taken;
      open_taken = open_taken;
      accept_taken = accept_taken;
      ask_taken = answered.0;
      answer = elim answered.1 [ inl y ↦ inl (y.0, meant.0 y.1) | inr y ↦ inr (y.0, λ h. y.1 (meant.1 h)) ];
    }

pub condition_2 : Condition2
condition_2 t taken w F sound none old number above fits work out store memory buffer room b = right t taken w F sound none number (omega (arith, above)) fits old above work out store memory buffer room b
