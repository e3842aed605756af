-- What stays so while rows are added behind those that are there.
use Rattle.std.proofs.Common.{◌≡◌, ℕ, zero, suc, List, [], ◌∷◌, ◌++◌, Bool, true, ◌&&◌, Option, Some, None, refl, sym, get_or}
use Rattle.std.specs.Prelude.{slice_get}
use Rattle.std.specs.Option.{option_map_or}
use Rattle.std.specs.List.{All}
use Rattle.std.proofs.lemmas.List.{append-nil}
use Rattle.std.proofs.lemmas.List.Elements.{All-append, All-cons, All-nil}
use Rattle.std.proofs.Math.Bool.{beq}
use Rattle.std.proofs.lemmas.Bool.{and_parts, and_from}
use Rattle.xp_base.specs.declared.numbers.BodyNo.{BodyNo}
use Rattle.xp_base.specs.declared.numbers.TypeNo.{TypeNo}
use Rattle.xp_catalog.specs.declared.rows.PseudoType.{PseudoType}
use Rattle.xp_catalog.specs.declared.record.Record.{Record}
use Rattle.xp_catalog.specs.declared.record.Record.TheVariants as row
use Rattle.xp_catalog.specs.declared.rows.FuncRow.{FuncRow}
use Rattle.xp_catalog.specs.declared.rows.TypeKind.TheVariants as kind
use Rattle.xp_catalog.specs.declared.rows.TypeRow.{TypeRow}
use Rattle.xp_catalog.specs.Contents.{Contents, added, type_row}
use Rattle.xp_catalog.specs.Spelling.{pseudo_type}
use Rattle.xp_bodies.specs.Fits.{IsFitted, agrees, agrees_with, are_named, fits, fits_with, has_name, is_as_loose, is_named}
use Rattle.xp_bodies.specs.Row.{Row}
use Rattle.xp_bodies.specs.Table.{bodies}
use Rattle.xp_loader.specs.Refusing.{fits_body}

-- ---- types come behind types

abbrev pub Grown : List TypeRow → List TypeRow → Type 0
Grown before after = (more : List TypeRow) × (after ≡ before ++ more)

either_more : (pseudo : Option PseudoType) (types : List TypeRow) (more : PseudoType → List TypeRow) (other : List TypeRow) → Grown types (option_map_or (λ p. types ++ more p) pseudo (types ++ other))
either_more (Some p) types more other = (more p, refl)
either_more None types more other = (other, refl)

pub types-added : (c : Contents) (r : Record) → Grown c.types (added c r).types
types-added c (row.Plain name category preferred line) = either_more (pseudo_type name) c.types (λ p. type_row name category preferred (kind.Pseudo p) line ∷ []) _
types-added c (row.Range name subtype line) = (_, refl)
types-added c (row.Domain name base not_null check line) = (_, refl)
types-added c (row.Cast cast) = ([], sym (append-nil c.types))
types-added c (row.Function func) = ([], sym (append-nil c.types))
types-added c (row.Operator oper) = ([], sym (append-nil c.types))

-- ---- a function that fits goes on fitting

has_name-later : (types more : List TypeRow) (k : ℕ) (name : List ℕ) → has_name (slice_get types k) name ≡ true → has_name (slice_get (types ++ more) k) name ≡ true
has_name-later [] more k name h = cc h
has_name-later (type ∷ types) more zero name h = h
has_name-later (type ∷ types) more (suc k) name h = has_name-later types more k name h

is_named-later : (c d : Contents) (more : List TypeRow) → d.types ≡ c.types ++ more → (type : TypeNo) (name : List ℕ) → is_named c type name ≡ true → is_named d type name ≡ true
is_named-later c d more e type name h = rw e (has_name-later c.types more type.0 name h)

are_named-later : (c d : Contents) (more : List TypeRow) → d.types ≡ c.types ++ more → (types : List TypeNo) (names : List (List ℕ)) → are_named c types names ≡ true → are_named d types names ≡ true
are_named-later c d more e [] [] h = refl
are_named-later c d more e [] (name ∷ names) h = cc h
are_named-later c d more e (type ∷ types) [] h = cc h
are_named-later c d more e (type ∷ types) (name ∷ names) h =
    and_from (is_named d type name) (are_named d types names)
    (is_named-later c d more e type name (and_parts (is_named c type name) (are_named c types names) h).0)
    (are_named-later c d more e types names (and_parts (is_named c type name) (are_named c types names) h).1)

agrees-later : (c d : Contents) (more : List TypeRow) → d.types ≡ c.types ++ more → (f : FuncRow) (body : Row) → agrees c f body ≡ true → agrees d f body ≡ true
agrees-later c d more e f body h =
    let front : Bool = beq f.variadic body.variadic && beq f.strict body.strict && is_as_loose f.volatility body.volatility in
    let named = (and_parts (front && is_named c f.result body.result) (are_named c f.args body.args) h).0 in
    and_from (front && is_named d f.result body.result) (are_named d f.args body.args)
    (and_from front (is_named d f.result body.result) (and_parts front (is_named c f.result body.result) named).0
    (is_named-later c d more e f.result body.result (and_parts front (is_named c f.result body.result) named).1))
    (are_named-later c d more e f.args body.args (and_parts (front && is_named c f.result body.result) (are_named c f.args body.args) h).1)

agrees_with-later : (c d : Contents) (more : List TypeRow) → d.types ≡ c.types ++ more → (f : FuncRow) (body : Option Row) → agrees_with c f body ≡ true → agrees_with d f body ≡ true
agrees_with-later c d more e f None h = cc h
agrees_with-later c d more e f (Some body) h = agrees-later c d more e f body h

fits_with-later : (c d : Contents) (more : List TypeRow) → d.types ≡ c.types ++ more → (f : FuncRow) (body : Option BodyNo) → fits_with c f body ≡ true → fits_with d f body ≡ true
fits_with-later c d more e f None h = refl
fits_with-later c d more e f (Some body) h = agrees_with-later c d more e f (slice_get bodies body.0) h

pub fits-later : (c d : Contents) → Grown c.types d.types → (f : FuncRow) → fits c f ≡ true → fits d f ≡ true
fits-later c d grown f h = fits_with-later c d grown.0 grown.1 f f.body h

all_later : (c d : Contents) → Grown c.types d.types → IsFitted c → All (λ func. fits d func ≡ true) c.funcs
all_later c d grown h k default within = fits-later c d grown (get_or c.funcs k default) (h k default within)

pub IsFitted-added : (c : Contents) (r : Record) → IsFitted c → fits_body c r ≡ true → IsFitted (added c r)
IsFitted-added c (row.Function func) h f =
    let d : Contents = added c (row.Function func) in
    All-append (λ g. fits d g ≡ true) c.funcs (func ∷ []) (all_later c d (types-added c (row.Function func)) h) (All-cons (λ g. fits d g ≡ true) func [] (fits-later c d (types-added c (row.Function func)) func f) (All-nil (λ g. fits d g ≡ true)))
IsFitted-added c (row.Plain name category preferred line) h f = all_later c (added c (row.Plain name category preferred line)) (types-added c (row.Plain name category preferred line)) h
IsFitted-added c (row.Range name subtype line) h f = all_later c (added c (row.Range name subtype line)) (types-added c (row.Range name subtype line)) h
IsFitted-added c (row.Domain name base not_null check line) h f = all_later c (added c (row.Domain name base not_null check line)) (types-added c (row.Domain name base not_null check line)) h
IsFitted-added c (row.Cast cast) h f = all_later c (added c (row.Cast cast)) (types-added c (row.Cast cast)) h
IsFitted-added c (row.Operator oper) h f = all_later c (added c (row.Operator oper)) (types-added c (row.Operator oper)) h
