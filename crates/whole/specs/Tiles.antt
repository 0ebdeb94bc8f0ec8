-- Parts that lie in a store with no gap and no overlap, in any order.
use Rattle.std.specs.Prelude.{◌≡◌, ℕ, ◌+◌, ◌≤◌, ◌<◌}

module _ (H : ℕ → Type 0) (place size : ℕ → ℕ) where
  -- position x belongs to part f
  pub record In (f x : ℕ) : Type 0 where
    pub is : H f
    pub from : place f ≤ x
    pub to : x < place f + size f

  -- THE POSITIONS BELOW `used` ARE EXACTLY THOSE OF THE PARTS, each of one part
  pub record Tiled (used : ℕ) : Type 0 where
    pub inside : (f : ℕ) → H f → place f + size f ≤ used
    pub covered : (x : ℕ) → x < used → (f : ℕ) × In f x
    pub apart : (f g x : ℕ) → In f x → In g x → f ≡ g
