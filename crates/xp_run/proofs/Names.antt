-- The names of arguments: those before the last, and the last.
use Rattle.std.proofs.Common.{◌≡◌, ℕ, ◌+◌, ◌<◌, List, [], ◌∷◌, ◌++◌, Bool, length, get_or, drop, refl, ap, ◌∙◌, codes}
use Rattle.xp_base.proofs.Lists.{drop_one}
use Rattle.xp_base.specs.declared.numbers.TypeNo.{TypeNo}
use Rattle.xp_catalog.specs.Contents.{Contents}
use Rattle.xp_run.specs.Uses.{argument_names, type_name}

front : (c : Contents) (variadic : Bool) (ty last : TypeNo) (rest : List TypeNo) → argument_names c variadic (ty ∷ rest ++ last ∷ []) ≡ type_name c ty ++ codes "," ++ argument_names c variadic (rest ++ last ∷ [])
front c variadic ty last [] = refl
front c variadic ty last (next ∷ rest) = refl

pub one_more : (c : Contents) (variadic : Bool) (before : List TypeNo) (last ty : TypeNo) (i : ℕ) → i < length before → ty ≡ get_or before i ty
    → argument_names c variadic (drop i before ++ last ∷ []) ≡ type_name c ty ++ codes "," ++ argument_names c variadic (drop (i + 1) before ++ last ∷ [])
one_more c variadic before last ty i h e = ap (λ rest. argument_names c variadic (rest ++ last ∷ [])) (drop_one before i ty h e) ∙ front c variadic ty last (drop (i + 1) before)
