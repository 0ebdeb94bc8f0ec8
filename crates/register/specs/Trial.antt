-- The register to try (01), and the single table.
use Rattle.std.specs.Prelude.{ℕ, zero, suc, ◌<◌, ◌≡◌, Bool, true, false, [], ◌∷◌, length}
use Rattle.meaning.specs.Says.{Says}
use Rattle.meaning.specs.Bytes.{Bytes, ascii}
use Rattle.meaning.specs.Holds.{Holds}
use Rattle.meaning.specs.Bound.{Open, step_bound}
use Rattle.meaning.specs.Fragment.{Fragment, Sound, NoStandIn}
use Rattle.meaning.specs.Register.{Register, rows_in, Cut, joined}
use Rattle.reader.specs.Packed.{placed_entries, packed}
use Rattle.reader.specs.Read.{Written, ReadRefusal}
use Rattle.depot.specs.Answer.{laid}
use Rattle.register.specs.Round.{Round, call_of, Replied}

abbrev pub pool : Bytes
pool = ascii "firmsiteliftbrakeB17B09markdone"

-- 0: firm, site under it, a stand-in for 1 under firm, one for 2 under site; 1: site, lift, brake "B17"; 2: lift, brake "B09", mark "done"
abbrev pub fragment : ℕ → Fragment
fragment zero = record {
  rows = 4294967295 ∷ 0 ∷ 0 ∷ 4 ∷ 0 ∷ 0 ∷ 0 ∷ 0 ∷ 4 ∷ 4 ∷ 0 ∷ 0 ∷ 0 ∷ 1 ∷ 1 ∷ 0 ∷ 0 ∷ 0 ∷ 1 ∷ 1 ∷ 2 ∷ 0 ∷ 0 ∷ 0 ∷ [];
  pool = pool;
}
fragment (suc zero) = record {
  rows = 4294967295 ∷ 0 ∷ 4 ∷ 4 ∷ 0 ∷ 0 ∷ 0 ∷ 0 ∷ 8 ∷ 4 ∷ 0 ∷ 0 ∷ 1 ∷ 0 ∷ 12 ∷ 5 ∷ 17 ∷ 3 ∷ [];
  pool = pool;
}
fragment (suc (suc f)) = record {
  rows = 4294967295 ∷ 0 ∷ 8 ∷ 4 ∷ 0 ∷ 0 ∷ 0 ∷ 0 ∷ 12 ∷ 5 ∷ 20 ∷ 3 ∷ 0 ∷ 0 ∷ 23 ∷ 4 ∷ 27 ∷ 4 ∷ [];
  pool = pool;
}

abbrev pub register : Register
register = record { layout = 255 ∷ 0 ∷ 0 ∷ []; fragment = fragment }

-- a text's list put to the register as question 1
abbrev pub round : (text : Bytes) → Written text → Round
round text w = record { register = register; list = packed (placed_entries w.tree); text = text; number = 1 }

-- the reader takes the text, no depot refuses it, and at the top row of the joined register it holds, or does not
pub record Case (text : Bytes) (answer : Bool) : Type 0 where
  pub taken : ReadRefusal text 0
  pub written : Written text
  pub replied : (f : ℕ) → f < 3 → Replied (round text written) f
  pub right : Says (Holds (joined register) written.tree (0, 0)) answer

-- THE SINGLE TABLE
pub record Table : Type 0 where
  pub a : Case (ascii "//lift[brake/text()=\"B17\"]") true
  pub b : Case (ascii "//lift[brake/text()=\"B09\"&!mark]") false
  pub c : Case (ascii "//firm") false
  pub d : Case (ascii "//.[label()=\"firm\"]") true
  pub e : Case (ascii "lift") false
  pub f : Case (ascii "site/lift") true
  pub g : Case (ascii "text()=\"\"") true
  pub h : Case (ascii "!.") false
  pub i : Case (ascii "*/*/*") true
  pub j : Case (ascii "*/*/*/*") false
  pub k : Case (ascii "site[lift/mark]&site[lift/brake/text()=\"B17\"]") true
  pub l : Case (ascii "site[lift/mark&lift/brake/text()=\"B17\"]") false
  -- a has 10 entries; m: for a, fragment 0 makes 21 steps, and the bound is 120
  pub a_entries : length (placed_entries a.written.tree) ≡ 10
  pub m_steps : length (laid (call_of (round _ a.written) 0)).steps ≡ 21
  pub is_open : ℕ → Bool
  pub tells : (k : ℕ) → k < 4 → Says (Open (rows_in register 0) k) (is_open k)
  pub m_bound : step_bound 10 (rows_in register 0) is_open ≡ 120
  -- the register is cut by its layout; fragment 1 alone meets condition 2
  pub cut : Cut register
  pub one_box : Sound 0 (fragment 1) × NoStandIn (fragment 1)
