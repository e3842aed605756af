-- What is derived from a level is built as what the level stands for.
use Rattle.std.proofs.Common.{◌≡◌, Bool, true, false, ◌⊎◌, inl, inr, List, [], ◌∷◌, ◌++◌, refl, sym, ap, ◌∙◌}
use Rattle.xp_base.specs.declared.numbers.Span.{Span}
use Rattle.xp_token.specs.declared.token.Token.{Token}
use Rattle.xp_grammar.specs.declared.types.TypeName.{TypeName}
use Rattle.xp_grammar.specs.declared.types.TypeWords.{TypeWords}
use Rattle.xp_grammar.specs.declared.ast.Ast.{Ast}
use Rattle.xp_grammar.specs.declared.ast.Arm.{Arm}
use Rattle.xp_grammar.specs.declared.statement.Item.{Item as ItemAst}
use Rattle.xp_grammar.specs.declared.statement.SelectArm.{SelectArm}
use Rattle.xp_grammar.specs.declared.statement.Statement.{Statement as StatementAst}
use Rattle.xp_grammar.specs.Table.{Level, Sym, Tok, Lev, Value, Word, Tree, Casted, Given, Trees, Lists, Cases, Spelled, Named, Labelled, Labels, Selected, Stated, Start, Tail, level, parts, made, on, turn, fits, joined, selected, one_whole, bracketed}
use Rattle.xp_grammar.specs.Table.{Level as l}
use Rattle.xp_grammar.specs.Table.{Start as s}
use Rattle.xp_grammar.specs.Table.{Tail as c}
use Rattle.xp_grammar.specs.Grammar.{Derives}
use Rattle.xp_grammar.specs.Reads.{IsStatement}

-- an expression, or one that ends in a type
abbrev pub Operand : Type 0
Operand = Ast ⊎ (Ast × (Span × TypeWords))

abbrev pub operand : Operand → Value
operand (inl x) = Tree x
operand (inr q) = Casted q.0 q.1.0 q.1.1

-- what a level stands for: of SELECTs the last, and those before it
abbrev pub Of : Level → Type 0
Of l.Statement = StatementAst
Of l.Selects = List SelectArm × SelectArm
Of l.Items = List ItemAst
Of l.Item = ItemAst
Of l.Rows = List (List Ast)
Of l.Shown = List Ast
Of l.E11 = Operand
Of l.Args = List Ast × Bool
Of l.Arms = List Arm
Of l.Full = TypeWords
Of l.Basic = TypeWords
Of l.Typename = Span × TypeName
Of _ = Ast

abbrev pub value : (m : Level) → Of m → Value
value l.Statement o = Stated o
value l.Selects o = Selected (o.0 ++ o.1 ∷ [])
value l.Items o = Labels o
value l.Item o = Labelled o
value l.Rows o = Lists o
value l.Shown o = Trees o
value l.E11 o = operand o
value l.Args o = Given o.0 o.1
value l.Arms o = Cases o
value l.Full o = Named o
value l.Basic o = Named o
value l.Typename o = Spelled o.0 o.1
value l.E0 o = Tree o
value l.E1 o = Tree o
value l.E2 o = Tree o
value l.E3 o = Tree o
value l.E4 o = Tree o
value l.E5 o = Tree o
value l.E6 o = Tree o
value l.P o = Tree o
value l.E7 o = Tree o
value l.E8 o = Tree o
value l.E9 o = Tree o
value l.E10 o = Tree o
value l.E12 o = Tree o

abbrev pub AllOf : List Sym → Type 0
AllOf [] = Unit {0}
AllOf (Tok a ∷ ss) = Token × AllOf ss
AllOf (Lev m ∷ ss) = Of m × AllOf ss

abbrev pub values : (ss : List Sym) → AllOf ss → List Value
values [] os = []
values (Tok a ∷ ss) os = Word os.0 ∷ values ss os.1
values (Lev m ∷ ss) os = value m os.0 ∷ values ss os.1

pub first_same : (x y : Value) (xs ys : List Value) → x ∷ xs ≡ y ∷ ys → x ≡ y
first_same x y xs ys e = cc

abbrev pub Built : Level → Value → Type 0
Built m v = (o : Of m) × (v ≡ value m o)

unfoldable pub select_built : (arms : List SelectArm) (last : SelectArm) → (o : StatementAst) × (selected (arms ++ last ∷ []) ≡ Stated o)
select_built [] last = (_, refl)
select_built (a ∷ []) last = (_, refl)
select_built (a ∷ b ∷ arms) last = (_, refl)

unfoldable pub start_built : (x : Start) (os : AllOf (parts x)) → Built (level x) (made x (values (parts x) os))
start_built s.selects os = select_built os.0.0 os.0.1
start_built s.values os = (_, refl)
start_built s.store os = (_, refl)
start_built s.describe os = (_, refl)
start_built s.explain os = (_, refl)
start_built s.explain_analyze os = (_, refl)
start_built s.select os = (([], _), refl)
start_built s.first_item os = (_, refl)
start_built s.item os = (_, refl)
start_built s.item_as os = (_, refl)
start_built s.first_row os = (_, refl)
start_built s.first_shown os = (_, refl)
start_built s.one_or os = (_, refl)
start_built s.one_and os = (_, refl)
start_built s.not_free os = (_, refl)
start_built s.not os = (_, refl)
start_built s.test_free os = (_, refl)
start_built s.is_truth os = (_, refl)
start_built s.is_not_truth os = (_, refl)
start_built s.isnull os = (_, refl)
start_built s.notnull os = (_, refl)
start_built s.is_distinct os = (_, refl)
start_built s.is_not_distinct os = (_, refl)
start_built s.compare_free os = (_, refl)
start_built s.compared os = (_, refl)
start_built s.range_free os = (_, refl)
start_built s.between os = (_, refl)
start_built s.not_between os = (_, refl)
start_built s.within os = (_, refl)
start_built s.not_within os = (_, refl)
start_built s.like os = (_, refl)
start_built s.not_like os = (_, refl)
start_built s.other_free os = (_, refl)
start_built s.other_prefix os = (_, refl)
start_built s.prefix os = (_, refl)
start_built s.prefix_prefix os = (_, refl)
start_built s.one_sum os = (_, refl)
start_built s.one_product os = (_, refl)
start_built s.one_power os = (_, refl)
start_built s.sign_free (inl x, os) = (_, refl)
start_built s.sign_free (inr q, os) = (_, refl)
start_built s.signed os = (_, refl)
start_built s.operand os = (inl os.0, refl)
start_built s.constant os = (_, refl)
start_built s.column os = (_, refl)
start_built s.typed_constant os = (_, refl)
start_built s.called_empty os = (_, refl)
start_built s.called os = (_, refl)
start_built s.paren os = (_, refl)
start_built s.cast_as os = (_, refl)
start_built s.cases os = (_, refl)
start_built s.cases_else os = (_, refl)
start_built s.cases_of os = (_, refl)
start_built s.cases_of_else os = (_, refl)
start_built s.selection os = (_, refl)
start_built s.nullif os = (_, refl)
start_built s.array_empty os = (_, refl)
start_built s.array os = (_, refl)
start_built s.position os = (_, refl)
start_built s.substring_one os = (_, refl)
start_built s.substring_more os = (_, refl)
start_built s.substring_from os = (_, refl)
start_built s.substring_from_for os = (_, refl)
start_built s.substring_for os = (_, refl)
start_built s.trim_from os = (_, refl)
start_built s.trim_set_from os = (_, refl)
start_built s.trim_side_from os = (_, refl)
start_built s.trim_side_set_from os = (_, refl)
start_built s.trim os = (_, refl)
start_built s.trim_set os = (_, refl)
start_built s.trim_side os = (_, refl)
start_built s.trim_side_set os = (_, refl)
start_built s.extract os = (_, refl)
start_built s.one_arg os = ((_, _), refl)
start_built s.variadic os = ((_, _), refl)
start_built s.first_arm os = (_, refl)
start_built s.full_basic os = (_, refl)
start_built s.basic os = (_, refl)
start_built s.basic_sized os = (_, refl)
start_built s.basic_scaled os = (_, refl)
start_built s.plain_type os = ((_, _), refl)
start_built s.double_type os = ((_, _), refl)
start_built s.double_precision os = ((_, _), refl)
start_built s.character_type os = ((_, _), refl)
start_built s.character_varying os = ((_, _), refl)
start_built s.moment_type os = ((_, _), refl)
start_built s.moment_zoned os = ((_, _), refl)

-- brackets behind a type are the type's where they hold one whole number, else a subscript
unfoldable pub bracket_built : (q : Ast × (Span × TypeWords)) (t : Token) (x : Ast) (b : Bool) → Built l.E11 (bracketed (Casted q.0 q.1.0 q.1.1) b (Word t ∷ Tree x ∷ []))
bracket_built q t x true = (inr (_, (_, _)), refl)
bracket_built q t x false = (inl _, refl)

unfoldable pub tail_built : (x : Tail) (o : Of (on x)) (us : List Token) (os : AllOf (turn x)) → fits x (value (on x) o) ≡ true → Built (on x) (joined x (value (on x) o) us (values (turn x) os))
tail_built c.union o us os h = ((o.0 ++ o.1 ∷ [], _), refl)
tail_built c.next_item o us os h = (_, refl)
tail_built c.next_row o us os h = (_, refl)
tail_built c.next_shown o us os h = (_, refl)
tail_built c.or o us os h = (_, refl)
tail_built c.and o us os h = (_, refl)
tail_built c.other_then o us os h = (_, refl)
tail_built c.other_then_prefix o us os h = (_, refl)
tail_built c.added o us os h = (_, refl)
tail_built c.multiplied o us os h = (_, refl)
tail_built c.raised o us os h = (_, refl)
tail_built c.cast (inl a) us os h = (inr (_, (_, _)), refl)
tail_built c.cast (inr q) us os h = (inr (_, (_, _)), refl)
tail_built c.empty_brackets (inl a) us os h = absurd cc
tail_built c.empty_brackets (inr q) us os h = (inr (_, (_, _)), refl)
tail_built c.brackets (inl a) us os h = (inl _, refl)
tail_built c.brackets (inr q) us os h = bracket_built q os.0 os.1.0 (one_whole us)
tail_built c.next_one (all, true) us os h = absurd cc
tail_built c.next_one (all, false) us os h = ((_, _), refl)
tail_built c.next_variadic (all, true) us os h = absurd cc
tail_built c.next_variadic (all, false) us os h = ((_, _), refl)
tail_built c.next_arm o us os h = (_, refl)
tail_built c.full_pair o us os h = (_, refl)
tail_built c.full_sized_pair o us os h = (_, refl)

unfoldable pub derived_built : {ss : List Sym} {ts : List Token} {vs : List Value} → Derives ss ts vs → (os : AllOf ss) × (vs ≡ values ss os)
derived_built Derives.none = (tt, refl)
derived_built (Derives.token a t h d) = let r = derived_built d in ((t, r.0), ap (λ z. Word t ∷ z) r.1)
derived_built (Derives.begins {ss = ss} {ws = ws} {vs = vs} x d e) =
    let below = derived_built d in
    let beside = derived_built e in
    let here = start_built x below.0 in
    ((here.0, beside.0), ap (λ z. made x z ∷ vs) below.1 ∙ ap (λ z. z ∷ vs) here.1 ∙ ap (λ z. value (level x) here.0 ∷ z) beside.1)
derived_built (Derives.goes_on {us = us} {v = v} {ws = ws} {vs = vs} x d h g e) =
    let before = derived_built d in
    let same : v ≡ value (on x) before.0.0 = first_same v (value (on x) before.0.0) [] [] before.1 in
    let behind = derived_built g in
    let beside = derived_built e in
    let here = tail_built x before.0.0 us behind.0 (ap (fits x) (sym same) ∙ h) in
    ((here.0, beside.0), ap (λ z. joined x z us ws ∷ vs) same ∙ ap (λ z. joined x (value (on x) before.0.0) us z ∷ vs) behind.1 ∙ ap (λ z. z ∷ vs) here.1 ∙ ap (λ z. value (on x) here.0 ∷ z) beside.1)

-- what is derived from the level of statements is a statement
pub statement_built : (ts : List Token) (v : Value) → IsStatement ts v → (o : StatementAst) × (v ≡ Stated o)
statement_built ts v d = let r = derived_built d in (r.0.0, first_same v (Stated r.0.0) [] [] r.1)
