-- How values of the types that bodies declare by name are kept, that of texts among them.
use Rattle.std.proofs.Common.{◌≡◌, ◌⊎◌, inl, inr, ℕ, List, true, false, codes, refl, ◌∙◌, ap, Option, Some, None}
use Rattle.std.specs.Option.{option_and_then}
use Rattle.xp_base.specs.declared.numbers.TypeNo.{TypeNo}
use Rattle.xp_value.specs.declared.value.Rep.TheVariants as rep
use Rattle.xp_value.specs.Names.{rep_named}
use Rattle.xp_catalog.specs.declared.rows.TypeKind.{TypeKind}
use Rattle.xp_catalog.specs.declared.rows.TypeKind.TheVariants as kind
use Rattle.xp_catalog.specs.Contents.{Contents}
use Rattle.xp_catalog.specs.Lookups.{type_named}
use Rattle.xp_catalog.specs.Rules.{kind_of, name_of}
use Rattle.xp_catalog.specs.Spelling.{is_among, plain_names}
use Rattle.xp_catalog.specs.WellFormed.{IsWellFormed}
use Rattle.xp_types.specs.Readers.{array_of, base, element}
use Rattle.xp_types.specs.Readers as types
use Rattle.xp_types.specs.Paths.{is_domain}
use Rattle.xp_tree.specs.declared.parts.NodeType.{NodeType}
use Rattle.xp_tree.specs.Typed.{IsArray, may_be_text}
use Rattle.xp_io.specs.Representations.{element_rep, rep_of}
use Rattle.xp_named.proofs.ArrayTypes.{array_over, named_so}
use Rattle.xp_coerce.specs.Types.{node_type}
use Rattle.xp_coerce.proofs.Strings.{domain_named}
use Rattle.xp_coerce.proofs.Typing.{array_kept, is_array}
use Rattle.xp_resolve.proofs.NodeLists.{base_of_array, element_kept}

-- a type of a plain type's name is that type, or isn't represented
pub plain_kept : (c : Contents) (type : TypeNo) (name : List ℕ) → IsWellFormed c → name_of c type ≡ name → is_among plain_names name ≡ true → (rep_of c type ≡ rep_named name) ⊎ (rep_of c type ≡ rep.Opaque)
plain_kept c type name well called among = go (kind_of c type) refl
  where
    go : (k : TypeKind) → kind_of c type ≡ k → (rep_of c type ≡ rep_named name) ⊎ (rep_of c type ≡ rep.Opaque)
    go kind.Plain is = inl (rw (is, is, called) refl)
    go (kind.Pseudo pseudo) is = inr (rw (is, is) refl)
    go (kind.Array inner) is = inr (rw (is, is) refl)
    go (kind.Range number) is = inr (rw (is, is) refl)
    go (kind.Domain number) is =
        let domain : is_domain c type ≡ true = rw is refl in
        let never : is_among plain_names name ≡ false = rw called at (domain_named c type well domain) in
        absurd (cc (among, never))

-- ---- the type that is found by its name

-- the type named `text` is kept as a text, or isn't represented
pub text_kept : (c : Contents) (t : TypeNo) → IsWellFormed c → type_named c (codes "text") ≡ Some t → (rep_of c t ≡ rep.Text) ⊎ (rep_of c t ≡ rep.Opaque)
text_kept c t well is = plain_kept c t (codes "text") well (named_so c (codes "text") t is) refl

pub text_may_be : (c : Contents) (t : TypeNo) → IsWellFormed c → type_named c (codes "text") ≡ Some t → may_be_text (rep_of c t) ≡ true
text_may_be c t well is = elim (text_kept c t well is) [ inl e ↦ rw e refl | inr e ↦ rw e refl ]

-- ---- the array type over it

pub record IsTexts (c : Contents) (texts : TypeNo) : Type 0 where
  pub text : TypeNo
  pub named : type_named c (codes "text") ≡ Some text
  pub over : element c texts ≡ Some text

pub texts_is : (c : Contents) (texts : TypeNo) → option_and_then (array_of c) (type_named c (codes "text")) ≡ Some texts → IsTexts c texts
texts_is c texts is = go (type_named c (codes "text")) refl
  where
    go : (o : Option TypeNo) → type_named c (codes "text") ≡ o → IsTexts c texts
    go None at = let never : None ≡ Some texts = rw at at is in absurd (cc never)
    go (Some text) at = let array : array_of c text ≡ Some texts = rw at at is in record { text = text; named = at; over = array_over c text texts array }

pub texts_may_be : (c : Contents) (texts : TypeNo) → IsWellFormed c → option_and_then (array_of c) (type_named c (codes "text")) ≡ Some texts → may_be_text (element_rep c texts) ≡ true
texts_may_be c texts well is =
    let own = texts_is c texts is in
    rw (element_kept c texts own.text own.over) (text_may_be c own.text well own.named)

-- ---- arrays aren't represented

pub array_is_array : (c : Contents) (ty : NodeType) → ty ≡ node_type c ty.no → types.is_array c (base c ty.no) ≡ true → IsArray ty
array_is_array c ty same is = go (element c (base c ty.no)) refl
  where
    go : (o : Option TypeNo) → element c (base c ty.no) ≡ o → IsArray ty
    go None at = let never : false ≡ true = rw at at is in absurd (cc never)
    go (Some type) at = is_array ty (ap (λ (t : NodeType). t.rep) same ∙ array_kept c ty.no type at)

pub texts_is_array : (c : Contents) (texts : TypeNo) → option_and_then (array_of c) (type_named c (codes "text")) ≡ Some texts → IsArray (node_type c texts)
texts_is_array c texts is =
    let own = texts_is c texts is in
    let at : element c (base c texts) ≡ Some own.text = ap (element c) (base_of_array c texts own.text own.over) ∙ own.over in
    is_array (node_type c texts) (array_kept c texts own.text at)
