-- A row of the table of bodies: what a function with that body takes and gives (manual 38.3, 38.7 and CREATE FUNCTION).
use Rattle.std.specs.Prelude.{ℕ, List, ◌∷◌, ◌++◌, Bool, true, false, map}
use Rattle.std.specs.List.{concat, flat_map}
use denote.Ref.{Bor}
use Rattle.xp_catalog.specs.declared.rows.Volatility.{Volatility}
use Rattle.xp_catalog.specs.declared.rows.Volatility.TheVariants.{Immutable, Stable}
use Rattle.xp_bodies.specs.declared.table.BodySig.{BodySig}

-- types go by their names
pub record Row : Type 0 where
  pub name : List ℕ
  pub args : List (List ℕ)
  pub variadic : Bool
  pub result : List ℕ
  pub strict : Bool
  pub volatility : Volatility

-- a body's name is its word and the types of its arguments, joined by `_`
abbrev pub name_of : List ℕ → List (List ℕ) → List ℕ
name_of word args = word ++ concat (map (λ arg. 95 ∷ arg) args)

-- most bodies are strict and immutable, and none of their arguments is variadic
abbrev pub usual : List ℕ → List (List ℕ) → List ℕ → Row
usual word args result = record { name = name_of word args; args = args; variadic = false; result = result; strict = true; volatility = Immutable }

-- it is called where an argument is null
abbrev pub on_null : Row → Row
on_null row = record row { strict = false }

-- it reads what a session may set
abbrev pub stable : Row → Row
stable row = record row { volatility = Stable }

-- it takes any number of values of any types, and writes them as text
abbrev pub gathering : Row → Row
gathering row = record row { variadic = true; strict = false; volatility = Stable }

-- the row that the code's record stands for
abbrev pub row_of : BodySig → Row
row_of body = record { name = body.name.now; args = map (λ arg. arg.now) body.args.now; variadic = body.variadic; result = body.result.now; strict = body.strict; volatility = body.volatility }

-- the rows of the code's families, one family behind the other
abbrev pub rows_of : List (Bor (List BodySig)) → List Row
rows_of families = flat_map (λ family. map row_of family.now) families
