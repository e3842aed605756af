-- The kinds of tokens, and classes of kinds (manual 4.1).
use Rattle.std.specs.Prelude.{ℕ, Bool, false, ◌||◌, List, [], ◌∷◌, codes, bytes_eq, if◌then◌else◌}
use Rattle.xp_token.specs.declared.token.Token.{Token}
use Rattle.xp_token.specs.declared.token.TokenKind.{TokenKind}
use Rattle.xp_token.specs.declared.token.TokenKind.TheVariants as t
use Rattle.xp_token.specs.declared.words.Word.TheVariants as w
use Rattle.xp_grammar.specs.declared.kind.Kind.{Kind}
use Rattle.xp_grammar.specs.declared.kind.Kind.TheVariants as k
use Rattle.xp_grammar.specs.contracts.kind.KindPartialEq.TheImpl as kinds
use Rattle.xp_grammar.specs.declared.kind.Class.{Class}
use Rattle.xp_grammar.specs.declared.kind.Class.TheVariants.{Only, Names, Plains, Moments, Zoned, TruthTests, Constants, Likes, Selections, Sides, Fields}

-- the kind beside the first of the words that it is, or another
abbrev pub spelled : List (List ℕ × Kind) → Kind → List ℕ → Kind
spelled [] other name = other
spelled (word ∷ more) other name = if bytes_eq name word.0 then word.1 else spelled more other name

-- the words of types of several words
abbrev pub name_kind : List ℕ → Kind
name_kind = spelled ((codes "double", k.Double) ∷ (codes "precision", k.Precision) ∷ (codes "character", k.Character) ∷ (codes "varying", k.Varying) ∷ (codes "timestamp", k.Timestamp) ∷ (codes "time", k.Time) ∷ (codes "with", k.With) ∷ (codes "without", k.Without) ∷ (codes "zone", k.Zone) ∷ []) k.Name

-- the operators that bind in their own way
abbrev pub operator_kind : List ℕ → Kind
operator_kind = spelled ((codes "+", k.Sign) ∷ (codes "-", k.Sign) ∷ (codes "*", k.Times) ∷ (codes "/", k.Times) ∷ (codes "%", k.Times) ∷ (codes "^", k.Power) ∷ (codes "<", k.Compare) ∷ (codes ">", k.Compare) ∷ (codes "=", k.Compare) ∷ (codes "<=", k.Compare) ∷ (codes ">=", k.Compare) ∷ (codes "<>", k.Compare) ∷ (codes "=>", k.Arrow) ∷ []) k.Other

abbrev pub kind_of : TokenKind → Kind
kind_of (t.Name name) = name_kind name
kind_of (t.Quoted name) = k.Quoted
kind_of (t.Word word) = k.Word word
kind_of (t.Str text) = k.String
kind_of (t.Number value whole) = if whole then k.Whole else k.Decimal
kind_of t.Wide = k.Wide
kind_of (t.Operator name) = operator_kind name
kind_of (t.Mark mark) = k.Mark mark
kind_of t.End = k.EndOfStatement

abbrev pub kind : Token → Kind
kind token = kind_of token.kind

-- the kind of the first token
abbrev pub ahead : List Token → Kind
ahead [] = k.Nothing
ahead (token ∷ tokens) = kind token

abbrev pub same : Kind → Kind → Bool
same = (kinds.ghosts).eq

abbrev pub among : Kind → List Kind → Bool
among a [] = false
among a (b ∷ bs) = same a b || among a bs

-- whether a kind is of a class
abbrev pub has : Class → Kind → Bool
has (Only b) a = same b a
has Names a = among a (k.Name ∷ k.Double ∷ k.Precision ∷ k.Character ∷ k.Varying ∷ k.Timestamp ∷ k.Time ∷ k.With ∷ k.Without ∷ k.Zone ∷ k.Quoted ∷ [])
has Plains a = among a (k.Name ∷ k.Precision ∷ k.Varying ∷ k.With ∷ k.Without ∷ k.Zone ∷ k.Quoted ∷ [])
has Moments a = among a (k.Timestamp ∷ k.Time ∷ [])
has Zoned a = among a (k.With ∷ k.Without ∷ [])
has TruthTests a = among a ((k.Word w.False) ∷ (k.Word w.Null) ∷ (k.Word w.True) ∷ (k.Word w.Unknown) ∷ [])
has Constants a = among a (k.Whole ∷ k.Decimal ∷ k.Wide ∷ k.String ∷ (k.Word w.False) ∷ (k.Word w.Null) ∷ (k.Word w.True) ∷ [])
has Likes a = among a ((k.Word w.Ilike) ∷ (k.Word w.Like) ∷ [])
has Selections a = among a ((k.Word w.Coalesce) ∷ (k.Word w.Greatest) ∷ (k.Word w.Least) ∷ [])
has Sides a = among a ((k.Word w.Both) ∷ (k.Word w.Leading) ∷ (k.Word w.Trailing) ∷ [])
has Fields a = among a (k.String ∷ k.Name ∷ k.Double ∷ k.Precision ∷ k.Character ∷ k.Varying ∷ k.Timestamp ∷ k.Time ∷ k.With ∷ k.Without ∷ k.Zone ∷ k.Quoted ∷ [])
