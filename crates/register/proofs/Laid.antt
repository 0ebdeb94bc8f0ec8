-- The replies laid down for a round, as the calls of its depots give them.
use Prim.Native.Nat.{ℕ, ◌+◌, ◌*◌, ◌^◌, ◌≤◌, ◌<◌}
use native.Mathlib.Omega.{arith}
use native.Mathlib.Nat.{le_refl}
use mathlib.Core.Path.{◌≡◌, refl, sym, ◌∙◌}
use mathlib.Core.Logic.{◌≢◌}
use mathlib.Core.List.{List, Memᴰ}
use lib.ListN.{length, take, drop, replicate, length-replicate}
use lib.Seq.{take-append_seam}
use Rattle.meaning.specs.Bytes.{Bytes}
use Rattle.meaning.specs.Refused.{Unless, Granted}
use Rattle.meaning.specs.Fragment.{Sound, row_count}
use Rattle.meaning.specs.Reply.{Reply}
use Rattle.meaning.specs.Register.{parts, Cut}
use Rattle.meaning.proofs.Refused.{through}
use Rattle.question.specs.Listed.{Keeps}
use Rattle.reply.specs.Read.{Is}
use Rattle.depot.specs.Answer.{Call, laid, bytes, memory_after, buffer_after, Answered}
use Rattle.desk.specs.Calls.{Accepts, Asks}
use Rattle.whole.specs.declared.Record.{Record}
use Rattle.register.specs.Calls.{Event, HandedIn}
use Rattle.register.specs.Round.{Round, call_of, Replied, SentBy, total, Meaning}
use Rattle.register.specs.Promise.{Tells}

-- ---- a call that is answered with 0
pub record Granting (c : Call) : Type 0 where
  pub keeps : Keeps c.list c.text
  pub asked : 0 < c.number
  pub sound : Sound c.part c.fragment
  pub few : length (laid c).steps ≤ 4096

pub granting : (c : Call) (work out : List ℕ) (size : ℕ) (work' out' : List ℕ) → Answered c work out 0 size work' out' → Granting c
granting c work out size work' out' a =
    let one = through (λ z. omega (arith, z)) a.refusal in
    let two = through (λ z. omega (arith, z)) one.1 in
    let three = through (λ z. omega (arith, z)) two.1 in
    let four = through (λ z. omega (arith, z)) three.1 in
    record { keeps = one.0.0; asked = one.0.1; sound = two.0; few = four.0 }

pub sent_bytes : (c : Call) (work out : List ℕ) (size : ℕ) (work' out' : List ℕ) → Answered c work out 0 size work' out' → take size out' ≡ bytes c
sent_bytes c work out size work' out' a = rw (a.size_is, a.buffer) (take-append_seam (bytes c) (drop (length (bytes c)) out))

-- ---- the rounds that no depot refuses
abbrev pub reply_of : Round → ℕ → Reply
reply_of R f = laid (call_of R f)

abbrev pub bytes_of : Round → ℕ → Bytes
bytes_of R f = bytes (call_of R f)

pub record Asked (R : Round) : Type 0 where
  pub cut : Cut R.register
  pub keeps : Keeps R.list R.text
  pub some_number : 0 < R.number
  pub number_fits : R.number < 2 ^ 32
  pub few_steps : (f : ℕ) → f < parts R.register → length (reply_of R f).steps ≤ 4096

pub sent_is : (R : Round) (f : ℕ) (s : Bytes) → SentBy R f s → s ≡ bytes_of R f
sent_is R f s b = b.is ∙ sent_bytes (call_of R f) b.called.work b.called.out b.called.size b.called.work' b.called.out' b.called.replying

pub is_sent : (R : Round) (f : ℕ) → Replied R f → SentBy R f (bytes_of R f)
is_sent R f p = record { called = p; is = sym (sent_bytes (call_of R f) p.work p.out p.size p.work' p.out' p.replying) }

pub all_asked : (R : Round) → Cut R.register → R.number < 2 ^ 32 → ((f : ℕ) → f < parts R.register → Replied R f) → Asked R
all_asked R cut fits p = record { cut = cut; keeps = first.keeps; some_number = first.asked; number_fits = fits; few_steps = λ f h. (of f h).few }
  where
    of : (f : ℕ) → f < parts R.register → Granting (call_of R f)
    of f h = let q = p f h in granting (call_of R f) q.work q.out q.size q.work' q.out' q.replying

    first : Granting (call_of R 0)
    first = of 0 (omega (arith, cut.layout.some_part))

-- memory and room enough
pub all_replied : (R : Round) → Asked R → (f : ℕ) → f < parts R.register → Replied R f
all_replied R a f h = record {
  work = memory;
  out = bytes c;
  size = length (bytes c);
  work' = memory_after 0 memory;
  out' = buffer_after c 0 (bytes c);
  replying = record {
    refusal = Unless.passed (a.keeps, a.some_number)
        (Unless.passed (a.cut.sound f h) (Unless.passed (rw length-replicate (le_refl _)) (Unless.passed (a.few_steps f h) (Unless.passed (le_refl _) Granted.granted))));
    size_is = refl;
    memory = refl;
    buffer = refl;
  };
}
  where
    c : Call
    c = call_of R f

    memory : List ℕ
    memory = replicate (4 * (row_count (R.register.fragment f) * R.list.count) + 12288) 0

-- ---- condition 3 of the replies laid down
abbrev pub LaidRoom : Round → Bytes → Type 0
LaidRoom R store = total (λ f. length (bytes_of R f)) (parts R.register) ≤ length store

abbrev pub LaidHonest : Round → List Event → Type 0
LaidHonest R l = (s : Bytes) (n : ℕ) → Memᴰ (Event.handed s n) l → (r : Reply) → Is 12 s r → r.number ≡ R.number
    → (r.fragment < parts R.register) × (r ≡ reply_of R r.fragment)

pub record LaidFaithful (R : Round) (l : List Event) (d : Record) (store : Bytes) : Type 0 where
  pub waiting : (f : ℕ) → f < parts R.register → (HandedIn (bytes_of R f) l → ⊥) → (n a : ℕ) → Asks d store n a → (n ≡ 0) × (a ≡ 0)
  pub answer : ((f : ℕ) → f < parts R.register → HandedIn (bytes_of R f) l) → (n a : ℕ) → Asks d store n a → (n ≡ 0) × Tells (Meaning R) a
  pub first : (f : ℕ) → f < parts R.register → (HandedIn (bytes_of R f) l → ⊥) → (n : ℕ) (e : Record) (x : Bytes) → Accepts d store (bytes_of R f) n e x → n ≡ 0
  pub further : (f : ℕ) → f < parts R.register → HandedIn (bytes_of R f) l → (n : ℕ) (e : Record) (x : Bytes) → Accepts d store (bytes_of R f) n e x → n ≡ 16
  pub damaged : (s : Bytes) → ((r : Reply) → Is 12 s r → ⊥) → (n : ℕ) (e : Record) (x : Bytes) → Accepts d store s n e x → n ≡ 13
  pub stranger : (s : Bytes) (r : Reply) → Is 12 s r → r.number ≢ R.number → (n : ℕ) (e : Record) (x : Bytes) → Accepts d store s n e x → n ≡ 14
