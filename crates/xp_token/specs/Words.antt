-- The reserved words, in lower case.
use Rattle.std.specs.Prelude.{ℕ, List, [], ◌∷◌, codes, Option, Some, None, if◌then◌else◌}
use Rattle.std.specs.Str.{bytes_eq}
use Rattle.xp_token.specs.declared.words.Word.{Word}
use Rattle.xp_token.specs.declared.words.Word.TheVariants as w

-- the words and how they are spelled
abbrev pub words : List (List ℕ × Word)
words =
    (codes "all", w.All) ∷
    (codes "analyze", w.Analyze) ∷
    (codes "and", w.And) ∷
    (codes "array", w.Array) ∷
    (codes "as", w.As) ∷
    (codes "between", w.Between) ∷
    (codes "both", w.Both) ∷
    (codes "case", w.Case) ∷
    (codes "cast", w.Cast) ∷
    (codes "coalesce", w.Coalesce) ∷
    (codes "describe", w.Describe) ∷
    (codes "distinct", w.Distinct) ∷
    (codes "else", w.Else) ∷
    (codes "end", w.End) ∷
    (codes "explain", w.Explain) ∷
    (codes "extract", w.Extract) ∷
    (codes "false", w.False) ∷
    (codes "for", w.For) ∷
    (codes "from", w.From) ∷
    (codes "greatest", w.Greatest) ∷
    (codes "ilike", w.Ilike) ∷
    (codes "in", w.In) ∷
    (codes "is", w.Is) ∷
    (codes "isnull", w.Isnull) ∷
    (codes "leading", w.Leading) ∷
    (codes "least", w.Least) ∷
    (codes "like", w.Like) ∷
    (codes "not", w.Not) ∷
    (codes "notnull", w.Notnull) ∷
    (codes "null", w.Null) ∷
    (codes "nullif", w.Nullif) ∷
    (codes "or", w.Or) ∷
    (codes "position", w.Position) ∷
    (codes "select", w.Select) ∷
    (codes "store", w.Store) ∷
    (codes "substring", w.Substring) ∷
    (codes "then", w.Then) ∷
    (codes "trailing", w.Trailing) ∷
    (codes "trim", w.Trim) ∷
    (codes "true", w.True) ∷
    (codes "union", w.Union) ∷
    (codes "unknown", w.Unknown) ∷
    (codes "values", w.Values) ∷
    (codes "variadic", w.Variadic) ∷
    (codes "when", w.When) ∷
    []

-- the entry of this spelling
abbrev pub lookup : List (List ℕ × Word) → List ℕ → Option Word
lookup [] name = None
lookup (entry ∷ entries) name = if bytes_eq entry.0 name then Some entry.1 else lookup entries name

unfoldable pub word_named : List ℕ → Option Word
word_named name = lookup words name
