-- Constants of a type, and what reading a text of it answers.
use Rattle.std.proofs.Common.{◌≡◌, ◌<◌, ◌≤◌, ℕ, List, true, length, arith, refl, ◌∙◌, ap, Result, Ok, Err}
use Rattle.std.proofs.lemmas.Bool.{and_parts}
use Rattle.std.proofs.lemmas.Bool.Decides.{nat_tests}
use Rattle.std.proofs.lemmas.Option.{slice_get_within}
use Rattle.xp_base.specs.declared.limits.TheConstants.{VALUE_LIMIT}
use Rattle.std.specs.Result.{result_map_both}
use Rattle.xp_base.specs.declared.codes.EvalError.{EvalError}
use Rattle.xp_base.specs.declared.numbers.TypeNo.{TypeNo}
use Rattle.xp_base.specs.OrMemory.{OrMemory}
use Rattle.xp_value.specs.declared.value.Rep.{Rep}
use Rattle.xp_value.specs.declared.value.Rep.TheVariants as rep
use Rattle.xp_value.specs.declared.value.Value.{Value}
use Rattle.xp_value.specs.declared.value.Value.TheVariants as value
use Rattle.xp_value.specs.Representation.{has, is_of, is_within_limits, plain}
use Rattle.xp_catalog.specs.Contents.{Contents, unknown_row}
use Rattle.xp_catalog.specs.Rules.{kind_of, name_of}
use Rattle.xp_catalog.specs.WellFormed.{IsWellFormed}
use Rattle.xp_types.specs.Readers.{base, unknown}
use Rattle.xp_tree.specs.Typed as typed
use Rattle.xp_io.specs.declared.reading.InFault.{InFault}
use Rattle.xp_io.specs.declared.reading.InFault.TheVariants as fault
use Rattle.xp_io.specs.Forms.{Reads}
use Rattle.xp_io.specs.Representations.{is_built, rep_of, shape_of}
use Rattle.xp_io.proofs.Built.{kind_built}
use Rattle.xp_coerce.specs.Coerced.{bad_literal, constant_of, is_memory}
use Rattle.xp_coerce.specs.Types.{node_type}
use Rattle.xp_coerce.specs.inner.Faults.{fault_of}
use Rattle.xp_coerce.proofs.Growing.{unknown_first}
use Rattle.xp_coerce.proofs.Paths.{unknown_kept}

built_shape : (element r : Rep) → is_built r ≡ true → typed.shape_with element r ≡ plain r
built_shape element rep.Bool is = refl
built_shape element rep.Int2 is = refl
built_shape element rep.Int4 is = refl
built_shape element rep.Int8 is = refl
built_shape element rep.Num is = refl
built_shape element rep.Text is = refl
built_shape element rep.Pad is = refl
built_shape element rep.Bytes is = refl
built_shape element rep.Day is = refl
built_shape element rep.Arr is = cc is
built_shape element rep.Int4Range is = cc is
built_shape element rep.Int8Range is = cc is
built_shape element rep.DateRange is = cc is
built_shape element rep.Opaque is = refl

-- a node's values are kept as the text forms say
pub node_shape : (c : Contents) (type : TypeNo) → typed.shape_of (node_type c type) ≡ shape_of c type
node_shape c type = built_shape (node_type c type).element (rep_of c type) (kind_built (kind_of c (base c type)) (name_of c (base c type)))

-- what is read may stand in a constant
pub read_fits : (c : Contents) (type : TypeNo) (v : Value) → is_of (shape_of c type) v ≡ true → is_of (typed.shape_of (node_type c type)) v ≡ true
read_fits c type v fits = rw (node_shape c type) fits

-- null is of every representation
null_kept : (r : Rep) → is_of (plain r) value.Null ≡ true
null_kept r = refl

-- and so may null
pub null_fits : (c : Contents) (type : TypeNo) → is_of (typed.shape_of (node_type c type)) value.Null ≡ true
null_fits c type = read_fits c type value.Null (null_kept (rep_of c type))

-- a literal's value is null or a text
pub literal_value : (c : Contents) (v : Value) → IsWellFormed c → is_of (typed.shape_of (node_type c unknown)) v ≡ true → has (plain rep.Opaque) v ≡ true
literal_value c v well fits =
    let shape : typed.shape_of (node_type c unknown) ≡ plain rep.Opaque = node_shape c unknown ∙ ap plain (unknown_kept c well) in
    let own : is_of (plain rep.Opaque) v ≡ true = rw shape at fits in
    (and_parts (has (plain rep.Opaque) v) (is_within_limits v) own).0

text_within : (text : List ℕ) → length text ≤ VALUE_LIMIT → is_of (plain rep.Opaque) (value.Opaque text) ≡ true
text_within text within = grind (arith, nat_tests, within)

-- a text may stand in a literal
pub text_fits : (c : Contents) (text : List ℕ) → IsWellFormed c → length text ≤ VALUE_LIMIT → is_of (typed.shape_of (node_type c unknown)) (value.Opaque text) ≡ true
text_fits c text well within =
    let shape : typed.shape_of (node_type c unknown) ≡ plain rep.Opaque = node_shape c unknown ∙ ap plain (unknown_kept c well) in
    rw shape (text_within text within)

-- `unknown` is a type of every catalogue
pub some_types : (c : Contents) → IsWellFormed c → 0 < length c.types
some_types c well = slice_get_within c.types 0 unknown_row (unknown_first well.count c well.built)

-- ---- what reading answers

pub read_ok : (c : Contents) (type : TypeNo) (said : Result Value EvalError) (v : Value) → Reads said (Ok v) → result_map_both (constant_of c type) bad_literal said ≡ Ok (constant_of c type v)
read_ok c type (Ok own) v reads = let same : own ≡ v = cc reads in rw same refl
read_ok c type (Err error) v reads = cc reads

pub read_err : (c : Contents) (type : TypeNo) (said : Result Value EvalError) (why : InFault) → Reads said (Err why) → OrMemory is_memory (result_map_both (constant_of c type) bad_literal said) (Err (fault_of why))
read_err c type (Ok own) (fault.Bad error) reads = cc reads
read_err c type (Err found) (fault.Bad error) reads = let same : found ≡ error = cc reads in rw same refl
read_err c type said fault.Memory reads = tt
