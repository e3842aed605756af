-- The tokens of a check's text.
use Rattle.std.proofs.Common.{◌≡◌, ℕ, zero, suc, ◌-◌, ◌==◌, List, [], ◌∷◌, true, false, cond, length, refl, ap, ◌∙◌, subst, None, Err, slice_get}
use Rattle.std.specs.Prelude.{Result}
use Rattle.std.specs.Bool.{MatchBool}
use Rattle.std.specs.Option.{option_map_or}
use Rattle.std.proofs.lemmas.List.{length-map}
use Rattle.xp_token.specs.declared.token.Token.{Token}
use Rattle.xp_token.specs.Lexemes.{Placed, all_placed, placed}
use Rattle.xp_token.specs.Held.{tokens_of}
use Rattle.xp_token.proofs.Holding.{tokens_again}
use Rattle.xp_parser.specs.Parses.{is_memory, parsed}
use Rattle.xp_grammar.specs.declared.statement.Statement.{Statement}
use Rattle.xp_parser.specs.declared.fault.ParseFault.{ParseFault}
use Rattle.xp_analyse.specs.Checks.{ends_behind, one_of_tokens, one_parsed}

-- by the tokens themselves
pub one_told : (tokens : List Token) → one_parsed (parsed (tokens_of (all_placed tokens))) ≡ one_parsed (parsed tokens)
one_told tokens = ap (λ ts. one_parsed (parsed ts)) (tokens_again tokens)

placed_at : (end : ℕ) (tokens : List Token) (place : ℕ)
    → option_map_or (λ (p : Placed). p.start == end) (slice_get (all_placed tokens) place) false ≡ option_map_or (λ (t : Token). t.span.start == end) (slice_get tokens place) false
placed_at end [] place = refl
placed_at end (t ∷ tokens) zero = refl
placed_at end (t ∷ tokens) (suc place) = placed_at end tokens place

pub last_ends : (end : ℕ) (tokens : List Token) → ends_behind end (all_placed tokens) ≡ option_map_or (λ (t : Token). t.span.start == end) (slice_get tokens (length tokens - 1)) false
last_ends end tokens =
    ap (λ n. option_map_or (λ (p : Placed). p.start == end) (slice_get (all_placed tokens) (n - 1)) false) (length-map tokens placed) ∙ placed_at end tokens (length tokens - 1)

-- of tokens that end behind the text, the one that is read
pub one_said : (end : ℕ) (tokens : List Token) (said : Result Statement ParseFault) → ends_behind end (all_placed tokens) ≡ true → parsed tokens ≡ said → one_of_tokens end (all_placed tokens) ≡ one_parsed said
one_said end tokens said e f =
    ap (λ b. cond b (one_parsed (parsed (tokens_of (all_placed tokens)))) None) e ∙ one_told tokens ∙ ap one_parsed f

pub one_refused : (end : ℕ) (tokens : List Token) (fault : ParseFault) → ends_behind end (all_placed tokens) ≡ true → is_memory fault ≡ false → MatchBool (is_memory fault) (Unit {0}) (parsed tokens ≡ Err fault) → one_of_tokens end (all_placed tokens) ≡ None
one_refused end tokens fault e z h = one_said end tokens (Err fault) e (subst (λ b. MatchBool b (Unit {0}) (parsed tokens ≡ Err fault)) z h)
