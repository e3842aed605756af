-- What the rules give each cast: a binary one is between texts or has a side that isn't represented, a function takes the one type and gives the other.
use Rattle.std.proofs.Common.{◌≡◌, ℕ, ◌<◌, Bool, true, false, ◌&&◌, ◌==◌, not, length, refl, arith}
use Rattle.std.specs.List.{All}
use Rattle.std.proofs.lemmas.Bool.{and_parts, not-true}
use Rattle.std.proofs.lemmas.List.Elements.{All-nil, All-push, All-weaker}
use Rattle.xp_base.specs.declared.numbers.TypeNo.{TypeNo}
use Rattle.xp_value.specs.declared.value.Rep.TheVariants as rep
use Rattle.xp_catalog.specs.declared.rows.CastMethod.{CastMethod}
use Rattle.xp_catalog.specs.declared.rows.CastMethod.TheVariants as method
use Rattle.xp_catalog.specs.declared.rows.CastRow.{CastRow}
use Rattle.xp_catalog.specs.declared.rows.TypeKind.{TypeKind}
use Rattle.xp_catalog.specs.declared.rows.TypeKind.TheVariants as kind
use Rattle.xp_catalog.specs.declared.record.Record.{Record}
use Rattle.xp_catalog.specs.declared.record.Record.TheVariants as row
use Rattle.xp_catalog.specs.Contents.{Contents, added, first_contents}
use Rattle.xp_catalog.specs.Rules.{casts_by, has_cast_function, has_good_method, is_castable, is_known, is_opaque, is_opaque_leaf, kind_of, leaf, leaf_in, may_be_binary, name_of}
use Rattle.xp_catalog.specs.Spelling.{is_among, plain_names, text_names}
use Rattle.xp_catalog.specs.WellFormed.{IsBuilt}
use Rattle.xp_catalog.specs.WellFormed.IsBuilt.{nothing, more}
use Rattle.xp_catalog.proofs.Keeps.{Keeps, keeps-each, known-within}
use Rattle.xp_tree.specs.Typed.{is_relabelled, may_be_text}
use Rattle.xp_value.specs.Names.{rep_named}
use Rattle.xp_coerce.proofs.Tests.{opaque_relabels, relabels_to_opaque, texts_relabel}
use Rattle.xp_coerce.proofs.Growing.{IsGrown, casts_later, grown_added, kept, kept_later, longer}
use Rattle.xp_coerce.proofs.Names.{no_plain, text_named}

abbrev pub FitsMethod : Contents → CastRow → CastMethod → Type 0
FitsMethod c cast method.Binary = is_relabelled (kept c cast.from) (kept c cast.to) ≡ true
FitsMethod c cast method.None = Unit {0}
FitsMethod c cast (method.Function number) = casts_by c number cast.from cast.to ≡ true

pub record IsFitCast (c : Contents) (cast : CastRow) : Type 0 where
  pub from : cast.from.0 < length c.types
  pub to : cast.to.0 < length c.types
  pub fits : FitsMethod c cast cast.method

-- ---- what a record's cast keeps

leaf_of_plain : (c : Contents) (type : TypeNo) → kind_of c type ≡ kind.Plain → leaf c type ≡ type
unfolding leaf_in
leaf_of_plain c type is = rw is refl

opaque_plain : (c : Contents) (type : TypeNo) → kind_of c type ≡ kind.Plain → is_opaque c type ≡ true → is_among plain_names (name_of c type) ≡ false
opaque_plain c type is opaque =
    let own : is_opaque_leaf (kind_of c type) (name_of c type) ≡ true = rw (leaf_of_plain c type is) at opaque in
    let shown : not (is_among plain_names (name_of c type)) ≡ true = rw is at own in
    not-true (is_among plain_names (name_of c type)) shown

-- a type that is opaque to the rules isn't represented
opaque_kept : (c : Contents) (type : TypeNo) → is_opaque c type ≡ true → kept c type ≡ rep.Opaque
opaque_kept c type opaque = go (kind_of c type) refl
  where
    go : (k : TypeKind) → kind_of c type ≡ k → kept c type ≡ rep.Opaque
    go kind.Plain is =
        let none : rep_named (name_of c type) ≡ rep.Opaque = no_plain (name_of c type) (opaque_plain c type is opaque) in
        rw (is, none) refl
    go (kind.Pseudo pseudo) is = rw is refl
    go (kind.Array element) is = rw is refl
    go (kind.Range number) is = rw is refl
    go (kind.Domain number) is = rw is refl

text_kept : (c : Contents) (type : TypeNo) → is_among text_names (name_of c type) ≡ true → may_be_text (kept c type) ≡ true
text_kept c type named = go (kind_of c type) refl
  where
    go : (k : TypeKind) → kind_of c type ≡ k → may_be_text (kept c type) ≡ true
    go kind.Plain is = rw is (text_named (name_of c type) named)
    go (kind.Pseudo pseudo) is = rw is refl
    go (kind.Array element) is = rw is refl
    go (kind.Range number) is = rw is refl
    go (kind.Domain number) is = rw is refl

binary_fits : (c : Contents) (cast : CastRow) → may_be_binary c cast ≡ true → is_relabelled (kept c cast.from) (kept c cast.to) ≡ true
binary_fits c cast may = go (is_opaque c cast.from) refl (is_opaque c cast.to) refl
  where
    go : (a : Bool) → is_opaque c cast.from ≡ a → (b : Bool) → is_opaque c cast.to ≡ b → is_relabelled (kept c cast.from) (kept c cast.to) ≡ true
    go true from b to = rw (opaque_kept c cast.from from) (opaque_relabels (kept c cast.to))
    go false from true to = rw (opaque_kept c cast.to to) (relabels_to_opaque (kept c cast.from))
    go false from false to =
        let both : (is_among text_names (name_of c cast.from) && is_among text_names (name_of c cast.to)) ≡ true = rw (from, to) at may in
        let texts = and_parts (is_among text_names (name_of c cast.from)) (is_among text_names (name_of c cast.to)) both in
        texts_relabel (kept c cast.from) (kept c cast.to) (text_kept c cast.from texts.0) (text_kept c cast.to texts.1)

method_fits : (c : Contents) (cast : CastRow) (m : CastMethod) → has_good_method c cast m ≡ true → has_cast_function c cast m ≡ true → FitsMethod c cast m
method_fits c cast method.Binary good function = binary_fits c cast good
method_fits c cast method.None good function = tt
method_fits c cast (method.Function number) good function = function

last_of_four : (a b c d : Bool) → (a && b && c && d) ≡ true → d ≡ true
last_of_four true true true d is = is
last_of_four true true false d is = cc is
last_of_four true false c d is = cc is
last_of_four false b c d is = cc is

new_fits : (c : Contents) (cast : CastRow) → Keeps c (row.Cast cast) → IsFitCast c cast
new_fits c cast keeps =
    let types = and_parts (is_known c cast.from) (is_known c cast.to) keeps.types in
    record {
      from = known-within c cast.from types.0;
      to = known-within c cast.to types.1;
      fits = method_fits c cast cast.method (last_of_four (is_castable c cast.from) (is_castable c cast.to) (not (cast.from.0 == cast.to.0)) (has_good_method c cast cast.method) keeps.arguments) keeps.function;
    }

-- ---- and keeps as records are added

method_later : (c d : Contents) (cast : CastRow) → IsGrown c d → cast.from.0 < length c.types → cast.to.0 < length c.types → (m : CastMethod) → FitsMethod c cast m → FitsMethod d cast m
method_later c d cast grown from to method.Binary fits = rw (kept_later c d cast.from grown from, kept_later c d cast.to grown to) fits
method_later c d cast grown from to method.None fits = tt
method_later c d cast grown from to (method.Function number) fits = casts_later c d number cast.from cast.to grown fits

later : (c d : Contents) → IsGrown c d → (cast : CastRow) → IsFitCast c cast → IsFitCast d cast
later c d grown cast fit =
    let more = longer c d grown in
    record {
      from = omega (arith, more, fit.from);
      to = omega (arith, more, fit.to);
      fits = method_later c d cast grown fit.from fit.to cast.method fit.fits;
    }

all_later : (c d : Contents) → IsGrown c d → All (IsFitCast c) c.casts → All (IsFitCast d) c.casts
all_later c d grown all = All-weaker (IsFitCast c) (IsFitCast d) (later c d grown) c.casts all

casts_added : (c : Contents) (r : Record) → Keeps c r → All (IsFitCast c) c.casts → All (IsFitCast (added c r)) (added c r).casts
casts_added c (row.Plain name category preferred line) keeps all = all_later c (added c (row.Plain name category preferred line)) (grown_added c (row.Plain name category preferred line)) all
casts_added c (row.Range name subtype line) keeps all = all_later c (added c (row.Range name subtype line)) (grown_added c (row.Range name subtype line)) all
casts_added c (row.Domain name base not_null check line) keeps all = all_later c (added c (row.Domain name base not_null check line)) (grown_added c (row.Domain name base not_null check line)) all
casts_added c (row.Cast cast) keeps all =
    let d : Contents = added c (row.Cast cast) in
    let grown = grown_added c (row.Cast cast) in
    All-push (IsFitCast d) c.casts cast (all_later c d grown all) (later c d grown cast (new_fits c cast keeps))
casts_added c (row.Function func) keeps all = all_later c (added c (row.Function func)) (grown_added c (row.Function func)) all
casts_added c (row.Operator oper) keeps all = all_later c (added c (row.Operator oper)) (grown_added c (row.Operator oper)) all

pub casts_fit : (n : ℕ) (c : Contents) → IsBuilt n c → All (IsFitCast c) c.casts
casts_fit n c nothing = All-nil (IsFitCast first_contents)
casts_fit n c (more m before r built keeps) = casts_added before r (keeps-each before r keeps) (casts_fit m before built)
