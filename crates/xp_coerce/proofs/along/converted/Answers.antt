use Rattle.std.proofs.Common.{◌≡◌, ◌∙◌, ap, sym, false}
use Rattle.xp_base.specs.OrMemory.{OrMemory}
use Rattle.xp_base.specs.declared.numbers.TypeNo.{TypeNo}
use Rattle.xp_types.specs.Readers.{base, is_known}
use Rattle.xp_types.specs.Paths as types
use Rattle.xp_tree.specs.Term.{type_of}
use Rattle.xp_coerce.specs.Coerced.{is_memory, read}
use Rattle.xp_coerce.specs.Types.{node_type}
use Rattle.xp_coerce.proofs.Paths.{HaveElements}
use Rattle.xp_coerce.proofs.Typing.{alike_base, alike_by, alike_each, alike_itself, at_literal, at_same, by_elements_typed, fits_at, is_unknown, path_typed}
use Rattle.xp_coerce.proofs.along.converted.Goals as goal

-- a literal has no type
no_type : (c : goal.In-Literal) → is_known (type_of c.args.t).no ≡ false
no_type c =
    let s : TypeNo = (type_of c.args.t).no in
    let is : c.path.result ≡ types.path c.args.c.now s c.args.target c.args.context = rw c.type_of-from.ensures at c.path.ensures.value in
    at_literal c.args.c.now s c.args.target c.path.result (HaveElements c.args.c.now c.args.context s c.args.target) c.in-Literal.is
    (fits_at c.args.c.now c.args.context s c.args.target c.path.result c.is_well_formed_law.ensures c.requires.fitted is)

pub read-requires-clause-literal : goal.read-requires-clause-literal
read-requires-clause-literal c = c.requires.source.literal (no_type c)

pub read-requires-clause-unknown : goal.read-requires-clause-unknown
read-requires-clause-unknown c = is_unknown c.args.c.now (type_of c.args.t) c.requires.source.type (no_type c)

pub make_elements-requires : goal.make_elements-requires
make_elements-requires c =
    let is : c.path.result ≡ types.path c.args.c.now (type_of c.args.t).no c.args.target c.args.context = rw c.type_of-from.ensures at c.path.ensures.value in
    let plain : types.is_domain c.args.c.now (base c.args.c.now c.args.target) ≡ false = rw c.base-to.ensures.value at c.base-to.ensures.plain in
    rw (c.element_way-way.ensures, c.node_type.ensures, c.type_of-from.ensures, c.base-to.ensures.value)
    (by_elements_typed c.args.c.now c.args.context c.args.t c.args.target c.path.result c.is_well_formed_law.ensures c.requires.fitted c.is_typed_law.ensures c.requires.source.type plain is c.in-Elements.is)

pub converted_by-requires : goal.converted_by-requires
converted_by-requires c =
    let is : c.path.result ≡ types.path c.args.c.now (type_of c.args.t).no c.args.target c.args.context = rw c.type_of-from.ensures at c.path.ensures.value in
    let plain : types.is_domain c.args.c.now (base c.args.c.now c.args.target) ≡ false = rw c.base-to.ensures.value at c.base-to.ensures.plain in
    rw (c.way_of-way.ensures, c.node_type-in_default.ensures, c.base-to.ensures.value)
    (path_typed c.args.c.now c.args.context c.args.t c.args.target c.path.result c.is_well_formed_law.ensures c.requires.fitted c.is_typed_law.ensures c.requires.source.type plain is c.in_default.not-Literal c.in_default.not-Same c.in_default.not-Elements c.in_default.not-NoPath)

pub returns-in-Literal-clause-value : goal.returns-in-Literal-clause-value
returns-in-Literal-clause-value c =
    let found : types.path c.args.c.now (type_of c.args.t).no c.args.target c.args.context ≡ c.path.result = sym (rw c.type_of-from.ensures at c.path.ensures.value) in
    let here : OrMemory is_memory (read c.args.c.now (base c.args.c.now c.args.target) c.args.t) c.read.result = rw c.base-to.ensures.value at c.read.ensures.value in
    rw (found, c.in-Literal.is) here

pub returns-in-Literal-clause-alike : goal.returns-in-Literal-clause-alike
returns-in-Literal-clause-alike c =
    let plain : types.is_domain c.args.c.now (base c.args.c.now c.args.target) ≡ false = rw c.base-to.ensures.value at c.base-to.ensures.plain in
    alike_each c.args.c.now c.args.target c.read.result plain (rw c.base-to.ensures.value at c.read.ensures.typed)

pub returns-in-Same-clause-alike : goal.returns-in-Same-clause-alike
returns-in-Same-clause-alike c =
    let s : TypeNo = (type_of c.args.t).no in
    let is : c.path.result ≡ types.path c.args.c.now s c.args.target c.args.context = rw c.type_of-from.ensures at c.path.ensures.value in
    let same : s ≡ c.args.target = at_same c.args.c.now s c.args.target c.path.result (HaveElements c.args.c.now c.args.context s c.args.target) c.in-Same.is
    (fits_at c.args.c.now c.args.context s c.args.target c.path.result c.is_well_formed_law.ensures c.requires.fitted is) in
    alike_itself c.args.c.now c.args.target (type_of c.args.t) (c.requires.source.type.same ∙ ap (node_type c.args.c.now) same)

pub returns-in_ok-make_elements-in-Elements-clause-alike : goal.returns-in_ok-make_elements-in-Elements-clause-alike
returns-in_ok-make_elements-in-Elements-clause-alike c =
    let plain : types.is_domain c.args.c.now (base c.args.c.now c.args.target) ≡ false = rw c.base-to.ensures.value at c.base-to.ensures.plain in
    rw (c.in_ok-make_elements-in-Elements.ensures, c.node_type.ensures, c.base-to.ensures.value) (alike_base c.args.c.now c.args.target plain)

pub returns-in_ok-converted_by-in_default-clause-alike : goal.returns-in_ok-converted_by-in_default-clause-alike
returns-in_ok-converted_by-in_default-clause-alike c =
    let plain : types.is_domain c.args.c.now (base c.args.c.now c.args.target) ≡ false = rw c.base-to.ensures.value at c.base-to.ensures.plain in
    rw (c.in_ok-converted_by-in_default.ensures, c.node_type-in_default.ensures, c.base-to.ensures.value) (alike_by c.args.c.now c.args.target c.way_of-way.result c.args.t plain)
