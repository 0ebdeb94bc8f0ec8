-- A form is read by the way that reads a part of it: where the part stands, and what is built over it.
use Prim.Native.Nat.{ℕ}
use mathlib.Core.Path.{◌≡◌, sym, subst}
use Rattle.std.specs.Prelude.{Option, Some, None}
use Rattle.meaning.specs.Bytes.{Bytes}
use Rattle.reader.specs.declared.state.State.{State}
use Rattle.reader.specs.inner.Reading.{Form, TreeOf, MadeOf, StandsAt, Nowhere, Goes, slack, Found, ReadsIn}

-- each tree of the form g that stands at a is built over one of the form h that stands at b
pub record Way (g h : Form) (t : Bytes) (a b : ℕ) (build : TreeOf h → TreeOf g) : Type 0 where
  pub back : (c : TreeOf g) → StandsAt g t a c → (u : TreeOf h) × (c ≡ build u) × StandsAt h t b u

module _ {g h : Form} {t : Bytes} {a b : ℕ} {build : TreeOf h → TreeOf g} where
  -- where the part is nowhere, so is the whole
  pub way_none : Way g h t a b build → Nowhere h t b → Nowhere g t a
  way_none y n = record { none = λ c i. let w = y.back c i in n.none w.0 w.2 }

module _ {g h : Form} {t : Bytes} {build : TreeOf h → TreeOf g} where
  -- what was found of the part is found of the whole
  pub way_some : {s i m r : State} {n o : ℕ} → Way g h t s.at i.at build → ((u : TreeOf h) → MadeOf h t i m n u → MadeOf g t s r o (build u)) → Goes t s r (slack g) → Found h t i m n → Found g t s r o
  way_some {s} {i} {m} {r} {n} {o} y made goes f = record {
    goes = goes;
    sound = (build f.sound.0, made f.sound.0 f.sound.1);
    complete = λ c z. let w = y.back c z in subst (MadeOf g t s r o) (sym w.1) (made w.0 (f.complete w.0 w.2));
  }

-- the part's answer is the whole's
module _ (g h : Form) (t : Bytes) (s i r : State) (build : TreeOf h → TreeOf g) where
  pub way_same : Way g h t s.at i.at build → ((n : ℕ) (u : TreeOf h) → MadeOf h t i r n u → MadeOf g t s r n (build u)) → (Goes t i r (slack h) → Goes t s r (slack g)) → (o : Option ℕ) → ReadsIn h t i r o → ReadsIn g t s r o
  way_same y made goes None f = way_none y f
  way_same y made goes (Some n) f = way_some y (made n) (goes f.goes) f
