-- Lists of trees in which each stands in front of its parts, and the stacks on which they are made.
use Rattle.std.specs.Prelude.{◌≡◌, List, [], ◌∷◌, ◌++◌, map, reverse}
use Rattle.xp_tree.specs.Term.{Term, Terms, Arms, leaf, one, two, many, case, domain, checked, none, more, no_arm, arm}

-- what a stack holds, read from its top
abbrev pub top_first : {A B : Type 0} → (A → B) → List A → List B
top_first f items = map f (reverse items)

abbrev pub list_of : Terms → List Term
list_of none = []
list_of (more a rest) = a ∷ list_of rest

abbrev pub list_of_arms : Arms → List Term
list_of_arms no_arm = []
list_of_arms (arm c r rest) = c ∷ r ∷ list_of_arms rest

-- the trees just below the top node
abbrev pub parts : Term → List Term
parts (leaf l ty) = []
parts (one o a ty) = a ∷ []
parts (two o a b ty) = a ∷ b ∷ []
parts (many o args ty) = list_of args
parts (case arms other ty) = other ∷ list_of_arms arms
parts (domain a row not_null ty) = a ∷ []
parts (checked a row not_null check ty) = a ∷ check ∷ []

-- Where the listed trees (the last one first) were taken one by one from the top of a stack, and their
-- parts put there in their place, `start` became `now`.
abbrev pub Leads : List Term → List Term → List Term → Type 0
Leads [] start now = now ≡ start
Leads (t ∷ listed) start now = (rest : List Term) × (now ≡ parts t ++ rest) × Leads listed start (t ∷ rest)

-- a list of trees stands at the head of another
abbrev pub StartsWith : List Term → List Term → Type 0
StartsWith front all = (rest : List Term) × (all ≡ front ++ rest)
