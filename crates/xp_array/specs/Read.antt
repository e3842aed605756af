-- What the text of an array of one dimension is: the texts of its elements, or the first fault of
-- its form (manual 8.15.2, 8.15.6).
use Rattle.std.specs.Prelude.{ℕ, zero, suc, Bool, true, false, ◌==◌, ◌&&◌, if◌then◌else◌, List, [], ◌∷◌, take, drop, option_map, Option, Some, None, Result, Ok, Err}
use Rattle.std.specs.List.{list_all}
use Rattle.xp_array.specs.Marks.{backslash, closing, comma, is_mark, is_null_word, is_space, opening, past_space, quote}
use Rattle.xp_base.specs.FromLeft.{and_then, joined}
use Rattle.xp_base.specs.declared.codes.EvalError.TheVariants as error
use Rattle.xp_characters.specs.Faults.{too_large}
use Rattle.xp_characters.specs.declared.fault.TextFault.{TextFault}
use Rattle.xp_characters.specs.declared.fault.TextFault.TheVariants as fault

abbrev pub bad_text : TextFault
bad_text = fault.Raised error.BadText

-- arrays of more dimensions aren't read
abbrev pub nested : TextFault
nested = fault.Raised error.Dimensions

-- an element's text, None for null, and what stands behind the element
abbrev pub Element : Type 0
Element = Option (List ℕ) × List ℕ

-- one byte more in front of the bytes of an element
abbrev pub before : ℕ → List ℕ × List ℕ → List ℕ × List ℕ
before c element = (c ∷ element.0, element.1)

-- The bytes up to a quote, and what stands behind it; nothing where there is none. Behind a
-- backslash a byte is plain.
abbrev pub quoted : (is_plain : Bool) → List ℕ → Option (List ℕ × List ℕ)
quoted is_plain [] = None
quoted true (c ∷ text) = option_map (before c) (quoted false text)
quoted false (c ∷ text) =
    if c == quote then Some ([], text)
    else if c == backslash then quoted true text
    else option_map (before c) (quoted false text)

-- no byte of an element stands there, but a mark or the end of the text
abbrev pub is_end : List ℕ → Bool
is_end [] = true
is_end (c ∷ text) = is_mark c

-- The bytes up to a mark or the end of the text, and what stands from there on. White space right
-- before the end is left out, and behind a backslash a byte is plain.
abbrev pub unquoted : (is_plain : Bool) → List ℕ → List ℕ × List ℕ
unquoted is_plain [] = ([], [])
unquoted true (c ∷ text) = before c (unquoted false text)
unquoted false (c ∷ text) =
    if is_end (past_space (c ∷ text)) then ([], past_space (c ∷ text))
    else if c == backslash then unquoted true text
    else before c (unquoted false text)

-- NULL in any case, and nothing else, up to a mark or the end of the text
abbrev pub is_null : List ℕ → Bool
is_null text = is_null_word (take 4 text) && is_end (past_space (drop 4 text))

-- a quote has to be closed
abbrev pub closed : Option (List ℕ × List ℕ) → Result Element TextFault
closed None = Err bad_text
closed (Some element) = Ok (Some element.0, past_space element.1)

-- without quotes no element is empty
abbrev pub not_empty : List ℕ × List ℕ → Result Element TextFault
not_empty ([], text) = Err bad_text
not_empty (c ∷ bytes, text) = Ok (Some (c ∷ bytes), text)

-- the element that begins a text
abbrev pub element : List ℕ → Result Element TextFault
element [] = Err bad_text
element (c ∷ text) =
    if c == opening then Err nested
    else if c == quote then closed (quoted false text)
    else if is_null (c ∷ text) then Ok (None, past_space (drop 4 (c ∷ text)))
    else not_empty (unquoted false (c ∷ text))

-- white space alone
abbrev pub is_blank : List ℕ → Bool
is_blank text = list_all is_space text

-- what stands behind a comma, or nothing behind the brace that ends the array
abbrev pub behind_comma : List ℕ → Result (Option (List ℕ)) TextFault
behind_comma [] = Err bad_text
behind_comma (c ∷ text) =
    if c == comma then Ok (Some text)
    else if c == closing && is_blank text then Ok None
    else Err bad_text

-- an element before those behind its comma
abbrev pub with_others : Option (List ℕ) → (List ℕ → Result (List (Option (List ℕ))) TextFault) → Option (List ℕ) → Result (List (Option (List ℕ))) TextFault
with_others text others None = Ok (text ∷ [])
with_others text others (Some behind) = joined (Ok text) (others behind)

-- the elements up to the end, of which there are no more than so many: one more is a fault where
-- it begins
abbrev pub elements : (limit : ℕ) → List ℕ → Result (List (Option (List ℕ))) TextFault
elements zero text = Err too_large
elements (suc limit) text = and_then (element (past_space text)) (λ first. and_then (behind_comma first.1) (with_others first.0 (elements limit)))

-- nothing but white space may stand behind the array
abbrev pub inside : (limit : ℕ) → List ℕ → Result (List (Option (List ℕ))) TextFault
inside limit [] = Err bad_text
inside limit (c ∷ text) = if c == closing then if is_blank text then Ok [] else Err bad_text else elements limit (c ∷ text)

abbrev pub opened : (limit : ℕ) → List ℕ → Result (List (Option (List ℕ))) TextFault
opened limit [] = Err bad_text
opened limit (c ∷ text) = if c == opening then inside limit (past_space text) else Err bad_text

-- the texts of the elements of an array of at most so many, None for null
abbrev pub element_texts : (limit : ℕ) → List ℕ → Result (List (Option (List ℕ))) TextFault
element_texts limit text = opened limit (past_space text)
