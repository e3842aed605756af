-- How high trees are, by which recursions over them end.
use Rattle.std.specs.Prelude.{ℕ, ◌+◌, ◌*◌, max, Option, Some, None}
use Rattle.xp_tree.specs.Term.{Term, Terms, Arms, leaf, one, two, many, case, domain, checked, none, more, no_arm, arm}

abbrev mutual
  pub height : Term → ℕ
  height (leaf l ty) = 1
  height (one o a ty) = height a + 1
  height (two o a b ty) = max (height a) (height b) + 1
  height (many o args ty) = height_all args + 1
  height (case arms other ty) = max (height_arms arms) (height other) + 1
  height (domain a row not_null ty) = height a + 1
  height (checked a row not_null check ty) = max (height a) (height check) + 1

  pub height_all : Terms → ℕ
  height_all none = 0
  height_all (more a rest) = max (height a) (height_all rest)

  pub height_arms : Arms → ℕ
  height_arms no_arm = 0
  height_arms (arm c r rest) = max (max (height c) (height r)) (height_arms rest)

abbrev pub height_within : Option Term → ℕ
height_within None = 0
height_within (Some t) = height t

-- heights with room between them for the helpers of a recursion
abbrev pub spaced : Term → ℕ
spaced t = 5 * height t
