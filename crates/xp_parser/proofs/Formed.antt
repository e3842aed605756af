-- What is derived of plain tokens is well formed.
use Rattle.std.proofs.Common.{◌≡◌, ℕ, zero, suc, Bool, true, false, ◌&&◌, inl, inr, List, [], ◌∷◌, ◌++◌, map, Some, None, refl, sym, ap, subst, ◌∙◌, take, length, ◌-◌, Ok, Err, IfOk}
use Rattle.std.proofs.lemmas.Bool.{and_from, and_parts, false≢true}
use Rattle.xp_base.specs.declared.numbers.Span.{Span}
use Rattle.xp_token.specs.declared.token.Token.{Token}
use Rattle.xp_token.specs.declared.token.TokenKind.{TokenKind}
use Rattle.xp_token.specs.declared.token.TokenKind.TheVariants as t
use Rattle.xp_token.specs.declared.words.Word.TheVariants as w
use Rattle.xp_token.specs.Lexemes.{seen, all_placed}
use Rattle.xp_token.specs.Ended.{is_plain, are_plain}
use Rattle.xp_grammar.specs.declared.kind.Class.TheVariants.{Only}
use Rattle.xp_grammar.specs.declared.kind.Kind.TheVariants as k
use Rattle.xp_grammar.specs.Kinds.{kind, kind_of, has}
use Rattle.xp_grammar.specs.declared.types.TypeWords.{TypeWords}
use Rattle.xp_grammar.specs.declared.ast.Ast.{Ast, roll-Ast, map-Ast}
use Rattle.xp_grammar.specs.declared.ast.Ast.TheVariants as e
use Rattle.xp_grammar.specs.declared.ast.Ast.TheFolds.{fold-roll-Ast, fold-roll-Arm}
use Rattle.xp_grammar.specs.declared.ast.Ast.TheOpen.{Ast-F}
use Rattle.xp_grammar.specs.declared.ast.TruthTest.TheVariants as tests
use Rattle.xp_grammar.specs.declared.ast.Arm.{Arm, fold-Arm}
use Rattle.xp_grammar.specs.declared.statement.SelectArm.{SelectArm}
use Rattle.xp_grammar.specs.declared.statement.Statement.{Statement as StatementAst}
use Rattle.xp_grammar.specs.Table.{Level, Sym, Tok, Lev, Value, Stated, Start, Tail, level, parts, on, turn, fits, one_whole, at, name_of, one_word, test_of, selection_of, side_of, any_case, constant_at, sized, scaled, arm}
use Rattle.xp_grammar.specs.Table.{Level as l}
use Rattle.xp_grammar.specs.Table.{Start as s}
use Rattle.xp_grammar.specs.Table.{Tail as c}
use Rattle.xp_grammar.specs.Grammar.{Derives}
use Rattle.xp_grammar.specs.Reads.{IsStatement}
use Rattle.xp_grammar.proofs.Built.{Operand, Of, value, AllOf, first_same, select_built, start_built, bracket_built, tail_built, derived_built}
use Rattle.xp_parser.specs.Parses.{Answer, Answers, IsAnswer, words, parsed}
use Rattle.xp_parser.proofs.Settled.{parsed_exact}
use Rattle.xp_parser.specs.WellFormed.{node, both, is_expression, is_number, is_modifier, is_type, is_item, is_select, are_shown, all, listed, is_well_formed}

abbrev is_arm : Arm → Bool
is_arm = fold-Arm Bool Bool node both

-- a node is well formed by its parts
of_node : (x : Ast) (layer : Ast-F Ast Arm) → roll-Ast layer ≡ x → node (map-Ast Ast Arm Bool Bool is_expression is_arm layer) ≡ true → is_expression x ≡ true
of_node x layer q h = ap is_expression (sym q) ∙ fold-roll-Ast Bool Bool node both layer ∙ h

of_arm : (p : Span) (x y : Ast) → is_expression x ≡ true → is_expression y ≡ true → is_arm (arm p x y) ≡ true
of_arm p x y h g = fold-roll-Arm Bool Bool node both (record { at = p; when = x; gives = y }) ∙ and_from (is_expression x) (is_expression y) h g

two : {a b : Bool} → a ≡ true → b ≡ true → (a && b) ≡ true
two {a} {b} h g = and_from a b h g

-- ---- lists

listed_all : (bs : List Bool) → listed bs ≡ true → all bs ≡ true
listed_all [] h = refl
listed_all (b ∷ bs) h = h

one_listed : (b : Bool) → b ≡ true → listed (b ∷ []) ≡ true
one_listed b h = and_from b true h refl

all_more : {A : Type 0} (f : A → Bool) (xs : List A) (x : A) → all (map f xs) ≡ true → f x ≡ true → all (map f (xs ++ x ∷ [])) ≡ true
all_more f [] x h g = and_from (f x) true g refl
all_more f (y ∷ ys) x h g = let r = and_parts (f y) (all (map f ys)) h in and_from (f y) (all (map f (ys ++ x ∷ []))) r.0 (all_more f ys x r.1 g)

listed_more : {A : Type 0} (f : A → Bool) (xs : List A) (x : A) → listed (map f xs) ≡ true → f x ≡ true → listed (map f (xs ++ x ∷ [])) ≡ true
listed_more f [] x h g = and_from (f x) true g refl
listed_more f (y ∷ ys) x h g = all_more f (y ∷ ys) x h g

-- ---- tokens

constant_formed : (p : Span) (token : TokenKind) → is_plain (seen token) ≡ true → is_expression (constant_at p token) ≡ true
constant_formed p (t.Number v whole) h = of_node _ (Ast-F.Number p v whole) (e.rolls-Number p v whole) h
constant_formed p t.Wide h = of_node _ (Ast-F.Wide p) (e.rolls-Wide p) refl
constant_formed p (t.Str x) h = of_node _ (Ast-F.Text p x) (e.rolls-Text p x) refl
constant_formed p (t.Word w.True) h = of_node _ (Ast-F.Bool p true) (e.rolls-Bool p true) refl
constant_formed p (t.Word w.False) h = of_node _ (Ast-F.Bool p false) (e.rolls-Bool p false) refl
constant_formed p _ h = of_node _ (Ast-F.Null p) (e.rolls-Null p) refl

whole_formed : (p : Span) (token : TokenKind) → has (Only k.Whole) (kind_of token) ≡ true → is_plain (seen token) ≡ true → is_modifier (sized p token) ≡ true
whole_formed p (t.Number v true) e h = h
whole_formed p (t.Number v false) e h = absurd (false≢true e)
whole_formed p _ e h = refl

wholes_formed : (p : Span) (a b : TokenKind) → has (Only k.Whole) (kind_of a) ≡ true → has (Only k.Whole) (kind_of b) ≡ true → is_plain (seen a) ≡ true → is_plain (seen b) ≡ true → is_modifier (scaled p a b) ≡ true
wholes_formed p (t.Number v true) (t.Number u true) d e h g = and_from (is_number v true) (is_number u true) h g
wholes_formed p (t.Number v true) (t.Number u false) d e h g = absurd (false≢true e)
wholes_formed p (t.Number v false) b d e h g = absurd (false≢true d)
wholes_formed p _ _ d e h g = refl

-- ---- what a level stands for is well formed

abbrev IsFormedOperand : Operand → Type 0
IsFormedOperand (inl x) = is_expression x ≡ true
IsFormedOperand (inr q) = (is_expression q.0 ≡ true) × (is_type q.1.1 ≡ true)

abbrev IsFormed : (m : Level) → Of m → Type 0
IsFormed l.Statement o = is_well_formed o ≡ true
IsFormed l.Selects o = (all (map is_select o.0) ≡ true) × (is_select o.1 ≡ true)
IsFormed l.Items o = listed (map is_item o) ≡ true
IsFormed l.Item o = is_item o ≡ true
IsFormed l.Rows o = listed (map are_shown o) ≡ true
IsFormed l.Shown o = are_shown o ≡ true
IsFormed l.E11 o = IsFormedOperand o
IsFormed l.Args o = all (map is_expression o.0) ≡ true
IsFormed l.Arms o = listed (map is_arm o) ≡ true
IsFormed l.Full o = is_type o ≡ true
IsFormed l.Basic o = is_type o ≡ true
IsFormed l.Typename o = Unit {0}
IsFormed l.E0 o = is_expression o ≡ true
IsFormed l.E1 o = is_expression o ≡ true
IsFormed l.E2 o = is_expression o ≡ true
IsFormed l.E3 o = is_expression o ≡ true
IsFormed l.E4 o = is_expression o ≡ true
IsFormed l.E5 o = is_expression o ≡ true
IsFormed l.E6 o = is_expression o ≡ true
IsFormed l.P o = is_expression o ≡ true
IsFormed l.E7 o = is_expression o ≡ true
IsFormed l.E8 o = is_expression o ≡ true
IsFormed l.E9 o = is_expression o ≡ true
IsFormed l.E10 o = is_expression o ≡ true
IsFormed l.E12 o = is_expression o ≡ true

-- each token is a plain one of its class, and each level well formed
abbrev AllFormed : (ss : List Sym) → AllOf ss → Type 0
AllFormed [] os = Unit {0}
AllFormed (Tok a ∷ ss) os = ((has a (kind os.0) ≡ true) × (is_plain (seen os.0.kind) ≡ true)) × AllFormed ss os.1
AllFormed (Lev m ∷ ss) os = IsFormed m os.0 × AllFormed ss os.1

select_formed : (arms : List SelectArm) (last : SelectArm) → all (map is_select arms) ≡ true → is_select last ≡ true → is_well_formed (select_built arms last).0 ≡ true
unfolding select_built
select_formed [] last h g = g
select_formed (a ∷ []) last h g = all_more is_select (a ∷ []) last h g
select_formed (a ∷ b ∷ arms) last h g = all_more is_select (a ∷ b ∷ arms) last h g

start_formed : (x : Start) (os : AllOf (parts x)) → AllFormed (parts x) os → IsFormed (level x) (start_built x os).0
unfolding start_built
start_formed s.selects os h = select_formed os.0.0 os.0.1 h.0.0 h.0.1
start_formed s.values os h = h.1.0
start_formed s.store os h = two h.1.0 h.1.1.1.0
start_formed s.describe os h = h.1.0
start_formed s.explain os h = h.1.0
start_formed s.explain_analyze os h = h.1.1.0
start_formed s.select os h = (refl, h.1.0)
start_formed s.first_item os h = one_listed _ h.0
start_formed s.item os h = h.0
start_formed s.item_as os h = h.0
start_formed s.first_row os h = one_listed _ h.1.0
start_formed s.first_shown os h = one_listed _ h.0
start_formed s.one_or os h = h.0
start_formed s.one_and os h = h.0
start_formed s.not_free os h = h.0
start_formed s.not os h = of_node _ (Ast-F.Not (at os.0) os.1.0) (e.rolls-Not (at os.0) os.1.0) h.1.0
start_formed s.test_free os h = h.0
start_formed s.is_truth os h = of_node _ (Ast-F.Is (at os.1.0) false (test_of os.1.1.0) os.0) (e.rolls-Is (at os.1.0) false (test_of os.1.1.0) os.0) h.0
start_formed s.is_not_truth os h = of_node _ (Ast-F.Is (at os.1.0) true (test_of os.1.1.1.0) os.0) (e.rolls-Is (at os.1.0) true (test_of os.1.1.1.0) os.0) h.0
start_formed s.isnull os h = of_node _ (Ast-F.Is (at os.1.0) false tests.Null os.0) (e.rolls-Is (at os.1.0) false tests.Null os.0) h.0
start_formed s.notnull os h = of_node _ (Ast-F.Is (at os.1.0) true tests.Null os.0) (e.rolls-Is (at os.1.0) true tests.Null os.0) h.0
start_formed s.is_distinct os h = of_node _ (Ast-F.IsDistinct (at os.1.0) false os.0 os.1.1.1.1.0) (e.rolls-IsDistinct (at os.1.0) false os.0 os.1.1.1.1.0) (two h.0 h.1.1.1.1.0)
start_formed s.is_not_distinct os h = of_node _ (Ast-F.IsDistinct (at os.1.0) true os.0 os.1.1.1.1.1.0) (e.rolls-IsDistinct (at os.1.0) true os.0 os.1.1.1.1.1.0) (two h.0 h.1.1.1.1.1.0)
start_formed s.compare_free os h = h.0
start_formed s.compared os h = of_node _ (Ast-F.Compare (at os.1.0) (name_of os.1.0) os.0 os.1.1.0) (e.rolls-Compare (at os.1.0) (name_of os.1.0) os.0 os.1.1.0) (two h.0 h.1.1.0)
start_formed s.range_free os h = h.0
start_formed s.between os h = of_node _ (Ast-F.Between (at os.1.0) false os.0 os.1.1.0 os.1.1.1.1.0) (e.rolls-Between (at os.1.0) false os.0 os.1.1.0 os.1.1.1.1.0) (two (two h.0 h.1.1.0) h.1.1.1.1.0)
start_formed s.not_between os h = of_node _ (Ast-F.Between (at os.1.1.0) true os.0 os.1.1.1.0 os.1.1.1.1.1.0) (e.rolls-Between (at os.1.1.0) true os.0 os.1.1.1.0 os.1.1.1.1.1.0) (two (two h.0 h.1.1.1.0) h.1.1.1.1.1.0)
start_formed s.within os h = of_node _ (Ast-F.In (at os.1.0) false os.0 os.1.1.1.0) (e.rolls-In (at os.1.0) false os.0 os.1.1.1.0) (two h.0 h.1.1.1.0)
start_formed s.not_within os h = of_node _ (Ast-F.In (at os.1.1.0) true os.0 os.1.1.1.1.0) (e.rolls-In (at os.1.1.0) true os.0 os.1.1.1.1.0) (two h.0 h.1.1.1.1.0)
start_formed s.like os h = of_node _ (Ast-F.Like (at os.1.0) false (any_case os.1.0) os.0 os.1.1.0) (e.rolls-Like (at os.1.0) false (any_case os.1.0) os.0 os.1.1.0) (two h.0 h.1.1.0)
start_formed s.not_like os h = of_node _ (Ast-F.Like (at os.1.1.0) true (any_case os.1.1.0) os.0 os.1.1.1.0) (e.rolls-Like (at os.1.1.0) true (any_case os.1.1.0) os.0 os.1.1.1.0) (two h.0 h.1.1.1.0)
start_formed s.other_free os h = h.0
start_formed s.other_prefix os h = h.0
start_formed s.prefix os h = of_node _ (Ast-F.Prefix (at os.0) (name_of os.0) os.1.0) (e.rolls-Prefix (at os.0) (name_of os.0) os.1.0) h.1.0
start_formed s.prefix_prefix os h = of_node _ (Ast-F.Prefix (at os.0) (name_of os.0) os.1.0) (e.rolls-Prefix (at os.0) (name_of os.0) os.1.0) h.1.0
start_formed s.one_sum os h = h.0
start_formed s.one_product os h = h.0
start_formed s.one_power os h = h.0
start_formed s.sign_free (inl x, os) h = h.0
start_formed s.sign_free (inr q, os) h = of_node _ (Ast-F.Cast q.1.0 q.0 q.1.1) (e.rolls-Cast q.1.0 q.0 q.1.1) (two h.0.0 h.0.1)
start_formed s.signed os h = of_node _ (Ast-F.Sign (at os.0) (name_of os.0) os.1.0) (e.rolls-Sign (at os.0) (name_of os.0) os.1.0) h.1.0
start_formed s.operand os h = h.0
start_formed s.constant os h = constant_formed (at os.0) os.0.kind h.0.1
start_formed s.column os h = of_node _ (Ast-F.Column (at os.0) (name_of os.0)) (e.rolls-Column (at os.0) (name_of os.0)) refl
start_formed s.typed_constant os h = of_node _ (Ast-F.Typed (one_word os.0) (at os.1.0) (name_of os.1.0)) (e.rolls-Typed (one_word os.0) (at os.1.0) (name_of os.1.0)) refl
start_formed s.called_empty os h = of_node _ (Ast-F.Call (at os.0) (name_of os.0) [] false) (e.rolls-Call (at os.0) (name_of os.0) [] false) refl
start_formed s.called os h = of_node _ (Ast-F.Call (at os.0) (name_of os.0) os.1.1.0.0 os.1.1.0.1) (e.rolls-Call (at os.0) (name_of os.0) os.1.1.0.0 os.1.1.0.1) h.1.1.0
start_formed s.paren os h = of_node _ (Ast-F.Paren (at os.0) os.1.0) (e.rolls-Paren (at os.0) os.1.0) h.1.0
start_formed s.cast_as os h = of_node _ (Ast-F.Cast (at os.0) os.1.1.0 os.1.1.1.1.0) (e.rolls-Cast (at os.0) os.1.1.0 os.1.1.1.1.0) (two h.1.1.0 h.1.1.1.1.0)
start_formed s.cases os h = of_node _ (Ast-F.Case (at os.0) None os.1.0 None) (e.rolls-Case (at os.0) None os.1.0 None) (two (two refl h.1.0) refl)
start_formed s.cases_else os h = of_node _ (Ast-F.Case (at os.0) None os.1.0 (Some os.1.1.1.0)) (e.rolls-Case (at os.0) None os.1.0 (Some os.1.1.1.0)) (two (two refl h.1.0) h.1.1.1.0)
start_formed s.cases_of os h = of_node _ (Ast-F.Case (at os.0) (Some os.1.0) os.1.1.0 None) (e.rolls-Case (at os.0) (Some os.1.0) os.1.1.0 None) (two (two h.1.0 h.1.1.0) refl)
start_formed s.cases_of_else os h = of_node _ (Ast-F.Case (at os.0) (Some os.1.0) os.1.1.0 (Some os.1.1.1.1.0)) (e.rolls-Case (at os.0) (Some os.1.0) os.1.1.0 (Some os.1.1.1.1.0)) (two (two h.1.0 h.1.1.0) h.1.1.1.1.0)
start_formed s.selection os h = of_node _ (Ast-F.Selection (at os.0) (selection_of os.0) os.1.1.0) (e.rolls-Selection (at os.0) (selection_of os.0) os.1.1.0) h.1.1.0
start_formed s.nullif os h = of_node _ (Ast-F.NullIf (at os.0) os.1.1.0 os.1.1.1.1.0) (e.rolls-NullIf (at os.0) os.1.1.0 os.1.1.1.1.0) (two h.1.1.0 h.1.1.1.1.0)
start_formed s.array_empty os h = of_node _ (Ast-F.Array (at os.0) []) (e.rolls-Array (at os.0) []) refl
start_formed s.array os h = of_node _ (Ast-F.Array (at os.0) os.1.1.0) (e.rolls-Array (at os.0) os.1.1.0) (listed_all (map is_expression os.1.1.0) h.1.1.0)
start_formed s.position os h = of_node _ (Ast-F.Position (at os.0) os.1.1.0 os.1.1.1.1.0) (e.rolls-Position (at os.0) os.1.1.0 os.1.1.1.1.0) (two h.1.1.0 h.1.1.1.1.0)
start_formed s.substring_one os h = of_node _ (Ast-F.Substring (at os.0) (os.1.1.0 ∷ [])) (e.rolls-Substring (at os.0) (os.1.1.0 ∷ [])) (one_listed _ h.1.1.0)
start_formed s.substring_more os h = of_node _ (Ast-F.Substring (at os.0) (os.1.1.0 ∷ os.1.1.1.1.0)) (e.rolls-Substring (at os.0) (os.1.1.0 ∷ os.1.1.1.1.0)) (two h.1.1.0 (listed_all (map is_expression os.1.1.1.1.0) h.1.1.1.1.0))
start_formed s.substring_from os h = of_node _ (Ast-F.SubstringFrom (at os.0) os.1.1.0 (Some os.1.1.1.1.0) None) (e.rolls-SubstringFrom (at os.0) os.1.1.0 (Some os.1.1.1.1.0) None) (two (two h.1.1.0 h.1.1.1.1.0) refl)
start_formed s.substring_from_for os h = of_node _ (Ast-F.SubstringFrom (at os.0) os.1.1.0 (Some os.1.1.1.1.0) (Some os.1.1.1.1.1.1.0)) (e.rolls-SubstringFrom (at os.0) os.1.1.0 (Some os.1.1.1.1.0) (Some os.1.1.1.1.1.1.0)) (two (two h.1.1.0 h.1.1.1.1.0) h.1.1.1.1.1.1.0)
start_formed s.substring_for os h = of_node _ (Ast-F.SubstringFrom (at os.0) os.1.1.0 None (Some os.1.1.1.1.0)) (e.rolls-SubstringFrom (at os.0) os.1.1.0 None (Some os.1.1.1.1.0)) (two (two h.1.1.0 refl) h.1.1.1.1.0)
start_formed s.trim_from os h = of_node _ (Ast-F.TrimFrom (at os.0) None None os.1.1.1.0) (e.rolls-TrimFrom (at os.0) None None os.1.1.1.0) (two refl h.1.1.1.0)
start_formed s.trim_set_from os h = of_node _ (Ast-F.TrimFrom (at os.0) None (Some os.1.1.0) os.1.1.1.1.0) (e.rolls-TrimFrom (at os.0) None (Some os.1.1.0) os.1.1.1.1.0) (two h.1.1.0 h.1.1.1.1.0)
start_formed s.trim_side_from os h = of_node _ (Ast-F.TrimFrom (at os.0) (Some (side_of os.1.1.0)) None os.1.1.1.1.0) (e.rolls-TrimFrom (at os.0) (Some (side_of os.1.1.0)) None os.1.1.1.1.0) (two refl h.1.1.1.1.0)
start_formed s.trim_side_set_from os h = of_node _ (Ast-F.TrimFrom (at os.0) (Some (side_of os.1.1.0)) (Some os.1.1.1.0) os.1.1.1.1.1.0) (e.rolls-TrimFrom (at os.0) (Some (side_of os.1.1.0)) (Some os.1.1.1.0) os.1.1.1.1.1.0) (two h.1.1.1.0 h.1.1.1.1.1.0)
start_formed s.trim os h = of_node _ (Ast-F.Trim (at os.0) None os.1.1.0 None) (e.rolls-Trim (at os.0) None os.1.1.0 None) (two h.1.1.0 refl)
start_formed s.trim_set os h = of_node _ (Ast-F.Trim (at os.0) None os.1.1.0 (Some os.1.1.1.1.0)) (e.rolls-Trim (at os.0) None os.1.1.0 (Some os.1.1.1.1.0)) (two h.1.1.0 h.1.1.1.1.0)
start_formed s.trim_side os h = of_node _ (Ast-F.Trim (at os.0) (Some (side_of os.1.1.0)) os.1.1.1.0 None) (e.rolls-Trim (at os.0) (Some (side_of os.1.1.0)) os.1.1.1.0 None) (two h.1.1.1.0 refl)
start_formed s.trim_side_set os h = of_node _ (Ast-F.Trim (at os.0) (Some (side_of os.1.1.0)) os.1.1.1.0 (Some os.1.1.1.1.1.0)) (e.rolls-Trim (at os.0) (Some (side_of os.1.1.0)) os.1.1.1.0 (Some os.1.1.1.1.1.0)) (two h.1.1.1.0 h.1.1.1.1.1.0)
start_formed s.extract os h = of_node _ (Ast-F.Extract (at os.0) (at os.1.1.0) (name_of os.1.1.0) os.1.1.1.1.0) (e.rolls-Extract (at os.0) (at os.1.1.0) (name_of os.1.1.0) os.1.1.1.1.0) h.1.1.1.1.0
start_formed s.one_arg os h = one_listed _ h.0
start_formed s.variadic os h = one_listed _ h.1.0
start_formed s.first_arm os h = one_listed _ (of_arm (at os.0) os.1.0 os.1.1.1.0 h.1.0 h.1.1.1.0)
start_formed s.full_basic os h = h.0
start_formed s.basic os h = refl
start_formed s.basic_sized os h = whole_formed (at os.1.0) os.1.1.0.kind h.1.1.0.0 h.1.1.0.1
start_formed s.basic_scaled os h = wholes_formed (at os.1.0) os.1.1.0.kind os.1.1.1.1.0.kind h.1.1.0.0 h.1.1.1.1.0.0 h.1.1.0.1 h.1.1.1.1.0.1
start_formed s.plain_type os h = tt
start_formed s.double_type os h = tt
start_formed s.double_precision os h = tt
start_formed s.character_type os h = tt
start_formed s.character_varying os h = tt
start_formed s.moment_type os h = tt
start_formed s.moment_zoned os h = tt

bracket_formed : (q : Ast × (Span × TypeWords)) (t : Token) (x : Ast) (b : Bool) → (is_expression q.0 ≡ true) × (is_type q.1.1 ≡ true) → is_expression x ≡ true → IsFormedOperand (bracket_built q t x b).0
unfolding bracket_built
bracket_formed q t x true h g = h
bracket_formed q t x false h g =
    let inner : is_expression (e.Cast q.1.0 q.0 q.1.1) ≡ true = of_node _ (Ast-F.Cast q.1.0 q.0 q.1.1) (e.rolls-Cast q.1.0 q.0 q.1.1) (two h.0 h.1) in
    of_node _ (Ast-F.Subscript (at t) (e.Cast q.1.0 q.0 q.1.1) x) (e.rolls-Subscript (at t) (e.Cast q.1.0 q.0 q.1.1) x) (two inner g)

tail_formed : (x : Tail) (o : Of (on x)) (us : List Token) (os : AllOf (turn x)) (f : fits x (value (on x) o) ≡ true) → IsFormed (on x) o → AllFormed (turn x) os → IsFormed (on x) (tail_built x o us os f).0
unfolding tail_built
tail_formed c.union o us os f k h = (all_more is_select o.0 o.1 k.0 k.1, h.1.1.1.0)
tail_formed c.next_item o us os f k h = listed_more is_item o os.1.0 k h.1.0
tail_formed c.next_row o us os f k h = listed_more are_shown o os.1.1.0 k h.1.1.0
tail_formed c.next_shown o us os f k h = listed_more is_expression o os.1.0 k h.1.0
tail_formed c.or o us os f k h = of_node _ (Ast-F.Or (at os.0) o os.1.0) (e.rolls-Or (at os.0) o os.1.0) (two k h.1.0)
tail_formed c.and o us os f k h = of_node _ (Ast-F.And (at os.0) o os.1.0) (e.rolls-And (at os.0) o os.1.0) (two k h.1.0)
tail_formed c.other_then o us os f k h = of_node _ (Ast-F.Other (at os.0) (name_of os.0) o os.1.0) (e.rolls-Other (at os.0) (name_of os.0) o os.1.0) (two k h.1.0)
tail_formed c.other_then_prefix o us os f k h = of_node _ (Ast-F.Other (at os.0) (name_of os.0) o os.1.0) (e.rolls-Other (at os.0) (name_of os.0) o os.1.0) (two k h.1.0)
tail_formed c.added o us os f k h = of_node _ (Ast-F.Sum (at os.0) (name_of os.0) o os.1.0) (e.rolls-Sum (at os.0) (name_of os.0) o os.1.0) (two k h.1.0)
tail_formed c.multiplied o us os f k h = of_node _ (Ast-F.Product (at os.0) (name_of os.0) o os.1.0) (e.rolls-Product (at os.0) (name_of os.0) o os.1.0) (two k h.1.0)
tail_formed c.raised o us os f k h = of_node _ (Ast-F.Power (at os.0) (name_of os.0) o os.1.0) (e.rolls-Power (at os.0) (name_of os.0) o os.1.0) (two k h.1.0)
tail_formed c.cast (inl x) us os f k h = (k, h.1.0)
tail_formed c.cast (inr q) us os f k h = (of_node _ (Ast-F.Cast q.1.0 q.0 q.1.1) (e.rolls-Cast q.1.0 q.0 q.1.1) (two k.0 k.1), h.1.0)
tail_formed c.empty_brackets (inl x) us os f k h = absurd cc
tail_formed c.empty_brackets (inr q) us os f k h = k
tail_formed c.brackets (inl x) us os f k h = of_node _ (Ast-F.Subscript (at os.0) x os.1.0) (e.rolls-Subscript (at os.0) x os.1.0) (two k h.1.0)
tail_formed c.brackets (inr q) us os f k h = bracket_formed q os.0 os.1.0 (one_whole us) k h.1.0
tail_formed c.next_one (xs, true) us os f k h = absurd cc
tail_formed c.next_one (xs, false) us os f k h = all_more is_expression xs os.1.0 k h.1.0
tail_formed c.next_variadic (xs, true) us os f k h = absurd cc
tail_formed c.next_variadic (xs, false) us os f k h = all_more is_expression xs os.1.1.0 k h.1.1.0
tail_formed c.next_arm o us os f k h = listed_more is_arm o (arm (at os.0) os.1.0 os.1.1.1.0) k (of_arm (at os.0) os.1.0 os.1.1.1.0 h.1.0 h.1.1.1.0)
tail_formed c.full_pair o us os f k h = k
tail_formed c.full_sized_pair o us os f k h = k

-- ---- plain tokens

abbrev Plain : List Token → Type 0
Plain [] = Unit {0}
Plain (t ∷ ts) = (is_plain (seen t.kind) ≡ true) × Plain ts

plain_front : (ts us : List Token) → Plain (ts ++ us) → Plain ts
plain_front [] us h = tt
plain_front (t ∷ ts) us h = (h.0, plain_front ts us h.1)

plain_behind : (ts us : List Token) → Plain (ts ++ us) → Plain us
plain_behind [] us h = h
plain_behind (t ∷ ts) us h = plain_behind ts us h.1

derived_formed : {ss : List Sym} {ts : List Token} {vs : List Value} (d : Derives ss ts vs) → Plain ts → AllFormed ss (derived_built d).0
unfolding derived_built
derived_formed Derives.none h = tt
derived_formed (Derives.token a t k d) h = ((k, h.0), derived_formed d h.1)
derived_formed (Derives.begins {us = us} {ts = ts} x d e) h =
    (start_formed x (derived_built d).0 (derived_formed d (plain_front us ts h)), derived_formed e (plain_behind us ts h))
derived_formed (Derives.goes_on {fs = fs} {us = us} {ts = ts} x d f g e) h =
    let front = plain_front (fs ++ us) ts h in
    (tail_formed x (derived_built d).0.0 us (derived_built g).0 _ (derived_formed d (plain_front fs us front)).0 (derived_formed g (plain_behind fs us front)), derived_formed e (plain_behind (fs ++ us) ts h))

-- what is derived of plain tokens as a statement is well formed
statement_formed : (ts : List Token) (x : StatementAst) → IsStatement ts (Stated x) → Plain ts → is_well_formed x ≡ true
statement_formed ts x d h =
    let built = derived_built d in
    subst (λ y. is_well_formed y ≡ true) (same_statement built.0.0 x (sym (first_same (Stated x) (Stated built.0.0) [] [] built.1))) (derived_formed d h).0
  where
    same_statement : (a b : StatementAst) → Stated a ≡ Stated b → a ≡ b
    same_statement a b e = cc

plain_tokens : (ts : List Token) → are_plain (all_placed ts) ≡ true → Plain ts
plain_tokens [] h = tt
plain_tokens (t ∷ ts) h = let r = and_parts (is_plain (seen t.kind)) (are_plain (all_placed ts)) h in (r.0, plain_tokens ts r.1)

plain_taken : (n : ℕ) (ts : List Token) → Plain ts → Plain (take n ts)
plain_taken zero ts h = tt
plain_taken (suc n) [] h = tt
plain_taken (suc n) (t ∷ ts) h = (h.0, plain_taken n ts h.1)

pub formed_of : (ts : List Token) (r : Answer) → Answers (parsed ts) r → IfOk r (λ x. are_plain (all_placed ts) ≡ true → is_well_formed x ≡ true)
formed_of ts (Err fault) e = tt
formed_of ts (Ok x) e = λ plain. by plain (subst (IsAnswer ts) e (parsed_exact ts))
  where
    by : are_plain (all_placed ts) ≡ true → IsAnswer ts (Ok x) → is_well_formed x ≡ true
    by plain (IsAnswer.statement y d h) = statement_formed (words ts) x d (plain_taken (length ts - 1) ts (plain_tokens ts plain))
