-- Whether a tree looks at a domain (manual, CREATE DOMAIN).
use Rattle.std.specs.Prelude.{Bool, true, false, ◌||◌}
use Rattle.xp_tree.specs.Term.{Arms, Term, Terms, arm, case, checked, domain, leaf, many, more, no_arm, none, one, two}

abbrev mutual
  pub has_domain : Term → Bool
  has_domain (leaf l ty) = false
  has_domain (one o a ty) = has_domain a
  has_domain (two o a b ty) = has_domain a || has_domain b
  has_domain (many o args ty) = some_have_domain args
  has_domain (case arms other ty) = arms_have_domain arms || has_domain other
  has_domain (domain a row not_null ty) = true
  has_domain (checked a row not_null check ty) = true

  pub some_have_domain : Terms → Bool
  some_have_domain none = false
  some_have_domain (more a rest) = has_domain a || some_have_domain rest

  pub arms_have_domain : Arms → Bool
  arms_have_domain no_arm = false
  arms_have_domain (arm c r rest) = has_domain c || has_domain r || arms_have_domain rest
