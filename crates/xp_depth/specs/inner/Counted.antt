-- What the code counts of the groups that are open.
use Rattle.std.specs.Prelude.{ℕ, ◌+◌, List, [], ◌∷◌, reverse}
use Rattle.xp_depth.specs.declared.depth.Part.{Part}
use Rattle.xp_depth.specs.Depth.{Groups, closed}

-- how much the groups around the innermost add to what is in it
abbrev pub added : List Part → ℕ
added [] = 0
added (q ∷ qs) = added qs + q.joints + 1

-- the groups, the outermost part first
abbrev pub seen : Part → List Part → Groups
seen part outer = record { part = part; outer = reverse outer }

-- how deep the list is without the innermost group
abbrev pub around : List Part → ℕ
around [] = 0
around (q ∷ qs) = closed q qs
