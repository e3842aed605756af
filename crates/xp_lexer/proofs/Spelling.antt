-- What spells an operator is what is read as one operator token.
use Rattle.std.proofs.Common.{◌≡◌, ◌≢◌, ◌↔◌, ℕ, suc, ◌-◌, Bool, true, false, not, ◌&&◌, ◌||◌, ◌==◌, [], ◌∷◌, ◌++◌, length, refl, sym, ap, subst, ◌∙◌, arith}
use Rattle.std.specs.Prelude.{slice_index, nat_lt, codes}
use Rattle.std.specs.List.{list_any, list_all}
use Rattle.std.specs.Str.{bytes_eq}
use Rattle.std.proofs.lemmas.Bool.{and_parts, or_parts, lt-ltb, true≢false}
use Rattle.std.proofs.lemmas.List.{append-nil}
use Rattle.std.proofs.lemmas.Slice.Eq.{bytes_eq-Decides}
use Rattle.xp_base.specs.Operators.{is_operator_byte, is_special_byte, is_sign, begins_with, has_pair, may_end, is_operator as spells_operator, is_operator_name}
use Rattle.xp_token.specs.Lexemes.{Lexeme, OperatorOf}
use Rattle.xp_lexer.specs.Bytes.{Text, first, opens_comment}
use Rattle.xp_lexer.specs.Meaning.{goes_on, spelled}
use Rattle.xp_lexer.specs.Grammar.{Run, Trims, Reads, ends_plain}
use Rattle.xp_lexer.specs.inner.Cutting.{is_operator}
use Rattle.xp_lexer.proofs.Runs.{run_text}
use Rattle.xp_lexer.proofs.Answering.{number_no_operator, name_no_operator}

turned : (v : Bool) → not v ≡ true → v ≡ false
turned true h = absurd cc
turned false h = refl

begins_first : (s : ℕ) (z : Text) → (0 == s) ≡ false → begins_with s z ≡ (first z == s)
begins_first s [] e = sym e
begins_first s (x ∷ z) e = refl

-- ---- a spelling is read

goes_first : (b : ℕ) (z : Text) → is_operator_byte b ≡ true → (b == 45 && begins_with 45 z) ≡ false → (b == 47 && begins_with 42 z) ≡ false → goes_on b (first z) ≡ true
goes_first b z o dashes slash =
    let d : (b == 45 && first z == 45) ≡ false = rw (begins_first 45 z refl) at dashes in
    let s : (b == 47 && first z == 42) ≡ false = rw (begins_first 42 z refl) at slash in
    rw (o, d, s) refl

run_whole : (z : Text) → list_all is_operator_byte z ≡ true → has_pair 45 45 z ≡ false → has_pair 47 42 z ≡ false → Run z z []
run_whole [] bytes dashes slash = Run.stops [] refl
run_whole (b ∷ z) bytes dashes slash =
    let p = and_parts (is_operator_byte b) (list_all is_operator_byte z) bytes in
    let d = or_parts (b == 45 && begins_with 45 z) (has_pair 45 45 z) dashes in
    let s = or_parts (b == 47 && begins_with 42 z) (has_pair 47 42 z) slash in
    Run.goes b z z [] (goes_first b z p.0 d.0 s.0) (run_whole z p.1 d.1 s.1)

last_plain : (b : ℕ) (z : Text) → ends_plain (b ∷ z) ≡ not (is_sign (slice_index (b ∷ z) (length (b ∷ z) - 1)))
last_plain b [] = refl
last_plain b (c ∷ z) =
    let n : length (c ∷ z) - 1 ≡ length z = omega arith in
    let m : length (b ∷ c ∷ z) - 1 ≡ suc (length z) = omega arith in
    last_plain c z ∙ ap (λ i. not (is_sign (slice_index (c ∷ z) i))) n ∙ sym (ap (λ i. not (is_sign (slice_index (b ∷ c ∷ z) i))) m)

plain_end : (b : ℕ) (z : Text) → may_end (b ∷ z) ≡ true → (v : Bool) → list_any is_special_byte (b ∷ z) ≡ v → Trims (b ∷ z) (b ∷ z) []
plain_end b z h true e = Trims.whole (b ∷ z) e
plain_end b z h false e =
    subst (λ t. Trims t (b ∷ z) []) (append-nil (b ∷ z)) (Trims.cut (b ∷ z) [] (subst (λ t. list_any is_special_byte t ≡ false) (sym (append-nil (b ∷ z))) e) refl (rw (last_plain b z) (by _ _ e h)))
  where
    by : (v w : Bool) → w ≡ false → (v || w) ≡ true → v ≡ true
    by v true e h = absurd cc
    by true false e h = refl
    by false false e h = absurd cc

spelling_reads : (z : Text) → spells_operator z ≡ true → Reads z (OperatorOf (spelled z)) []
spelling_reads [] h = absurd cc
spelling_reads (b ∷ z) h =
    let p = and_parts _ (may_end (b ∷ z)) h in
    let q = and_parts _ (not (has_pair 47 42 (b ∷ z))) p.0 in
    let r = and_parts _ (not (has_pair 45 45 (b ∷ z))) q.0 in
    let s = and_parts (nat_lt 0 (length (b ∷ z))) (list_all is_operator_byte (b ∷ z)) r.0 in
    let run = run_whole (b ∷ z) s.1 (turned (has_pair 45 45 (b ∷ z)) r.1) (turned (has_pair 47 42 (b ∷ z)) q.1) in
    Reads.operator (b ∷ z) (b ∷ z) (b ∷ z) [] [] (begins (b ∷ z) run (λ e. absurd cc)) run (plain_end b z p.1 (list_any is_special_byte (b ∷ z)) refl)
  where
    begins : (y : Text) → Run y y [] → y ≢ [] → goes_on (first y) (slice_index y 1) ≡ true
    begins [] r some = absurd (some refl)
    begins (c ∷ y) r some = of_run (c ∷ y) (c ∷ y) [] r (λ e. absurd cc)
      where
        of_run : (z run rest : Text) → Run z run rest → run ≢ [] → goes_on (first z) (slice_index z 1) ≡ true
        of_run z run rest (Run.stops r e) some = absurd (some refl)
        of_run z run rest (Run.goes b y w r e more) some = e

-- ---- what is read is a spelling

run_bytes : (z run rest : Text) → Run z run rest → list_all is_operator_byte run ≡ true
run_bytes z run rest (Run.stops r e) = refl
run_bytes z run rest (Run.goes b y w r e more) =
    let o : is_operator_byte b ≡ true = (and_parts (is_operator_byte b) (not (opens_comment b (first y))) e).0 in
    rw (o, run_bytes y w r more) refl

run_pairs : (z run rest : Text) → Run z run rest → rest ≡ [] → (has_pair 45 45 z ≡ false) × (has_pair 47 42 z ≡ false)
run_pairs z run rest (Run.stops r e) h = rw h (refl, refl)
run_pairs z run rest (Run.goes b y w r e more) h =
    let p = run_pairs y w r more h in
    let c = turned (opens_comment b (first y)) (and_parts (is_operator_byte b) (not (opens_comment b (first y))) e).1 in
    let o = or_parts (b == 45 && first y == 45) (b == 47 && first y == 42) c in
    (rw (begins_first 45 y refl) (rw (o.0, p.0) refl), rw (begins_first 42 y refl) (rw (o.1, p.1) refl))

or_last : (v w : Bool) → w ≡ true → (v || w) ≡ true
or_last true w e = refl
or_last false w e = e

or_first : (v w : Bool) → v ≡ true → (v || w) ≡ true
or_first true w e = refl
or_first false w e = absurd cc

kept_end : (z : Text) → (length z == 1 || ends_plain z) ≡ true → may_end z ≡ true
kept_end [] h = absurd cc
kept_end (b ∷ z) h = or_first _ (list_any is_special_byte (b ∷ z)) (subst (λ v. (length (b ∷ z) == 1 || v) ≡ true) (last_plain b z) h)

trims_end : (run op signs : Text) → Trims run op signs → signs ≡ [] → (run ≡ op) × (may_end run ≡ true)
trims_end run op signs (Trims.whole w special) e = (refl, or_last _ (list_any is_special_byte w) special)
trims_end run op signs (Trims.cut x s none all kept) e =
    let f : x ++ s ≡ x = ap (λ t. x ++ t) e ∙ append-nil x in
    (f, subst (λ t. may_end t ≡ true) (sym f) (kept_end x kept))

nil_parts : (a b : Text) → a ++ b ≡ [] → (a ≡ []) × (b ≡ [])
nil_parts [] b e = (refl, e)
nil_parts (x ∷ a) b e = absurd cc

run_spells : (z run op signs rest : Text) → goes_on (first z) (slice_index z 1) ≡ true → Run z run rest → Trims run op signs → signs ++ rest ≡ [] → (spells_operator z ≡ true) × (op ≡ z)
run_spells [] run op signs rest h r t e = absurd cc
run_spells (b ∷ z) run op signs rest h r t e =
    let n = nil_parts signs rest e in
    let same : b ∷ z ≡ run = run_text (b ∷ z) run rest r ∙ ap (λ x. run ++ x) n.1 ∙ append-nil run in
    let ends = trims_end run op signs t n.0 in
    let bytes : list_all is_operator_byte (b ∷ z) ≡ true = subst (λ x. list_all is_operator_byte x ≡ true) (sym same) (run_bytes (b ∷ z) run rest r) in
    let last : may_end (b ∷ z) ≡ true = subst (λ x. may_end x ≡ true) (sym same) ends.1 in
    let pairs = run_pairs (b ∷ z) run rest r n.1 in
    (all_parts (nat_lt 0 (length (b ∷ z))) (list_all is_operator_byte (b ∷ z)) (has_pair 45 45 (b ∷ z)) (has_pair 47 42 (b ∷ z)) (may_end (b ∷ z)) (lt-ltb 0 (length (b ∷ z)) (omega arith)) bytes pairs.0 pairs.1 last, sym (same ∙ ends.0))
  where
    all_parts : (s a d c m : Bool) → s ≡ true → a ≡ true → d ≡ false → c ≡ false → m ≡ true → (s && a && not d && not c && m) ≡ true
    all_parts s a d c m e f g h i = rw (e, f, g, h, i) refl

no_operator : (k : Lexeme) (o : Text) → is_operator k ≡ false → k ≡ OperatorOf o → ⊥
no_operator k o e f = true≢false (sym (ap is_operator f) ∙ e)

read_spells : (z : Text) (k : Lexeme) (rest o : Text) → Reads z k rest → k ≡ OperatorOf o → rest ≡ [] → (spells_operator z ≡ true) × (spelled z ≡ o)
read_spells z k rest o (Reads.string y text r h) e n = absurd cc
read_spells z k rest o (Reads.quoted y raw text r q clean some) e n = absurd cc
read_spells z k rest o (Reads.based y w r b) e n = absurd (no_operator _ o (number_no_operator w 0 true) e)
read_spells z k rest o (Reads.decimal y whole point r v w m c x begins none d f p) e n = absurd (no_operator _ o (number_no_operator _ _ _) e)
read_spells z k rest o (Reads.name y front r h p l) e n = absurd (no_operator _ o (name_no_operator _ _) e)
read_spells z k rest o (Reads.operator y run op signs r h rn t) e n =
    let s = run_spells y run op signs r h rn t n in
    let f : spelled op ≡ o = cc in
    (s.0, ap spelled (sym s.1) ∙ f)
read_spells z k rest o (Reads.open_paren y) e n = absurd cc
read_spells z k rest o (Reads.close_paren y) e n = absurd cc
read_spells z k rest o (Reads.open_bracket y) e n = absurd cc
read_spells z k rest o (Reads.close_bracket y) e n = absurd cc
read_spells z k rest o (Reads.comma y) e n = absurd cc
read_spells z k rest o (Reads.point y d) e n = absurd cc
read_spells z k rest o (Reads.double_colon y) e n = absurd cc

pub operator_is_read : (z : Text) → (spells_operator z ≡ true) ↔ Reads z (OperatorOf (spelled z)) []
operator_is_read z = (spelling_reads z, (λ r. (read_spells z (OperatorOf (spelled z)) [] (spelled z) r refl refl).0))

-- ---- names

as_written : (z : Text) → bytes_eq z (codes "!=") ≡ false → spelled z ≡ z
unfolding spelled
as_written z e = rw e refl

not_equal : (z : Text) → bytes_eq z (codes "!=") ≡ true → spelled z ≢ z
unfolding spelled
not_equal z e s =
    let f : codes "<>" ≡ z = rw e at s in
    true≢false (sym e ∙ ap (λ t. bytes_eq t (codes "!=")) (sym f))

name_reads : (z : Text) → is_operator_name z ≡ true → Reads z (OperatorOf z) [] × (z ≢ codes "=>")
name_reads z h =
    let p = and_parts _ (not (bytes_eq z (codes "!="))) h in
    let q = and_parts (spells_operator z) (not (bytes_eq z (codes "=>"))) p.0 in
    let same = as_written z (turned (bytes_eq z (codes "!=")) p.1) in (
      subst (λ t. Reads z (OperatorOf t) []) same (spelling_reads z q.0),
      λ e. true≢false (sym ((bytes_eq-Decides z (codes "=>")).1 e) ∙ turned (bytes_eq z (codes "=>")) q.1),
    )

read_names : (z : Text) → Reads z (OperatorOf z) [] → z ≢ codes "=>" → is_operator_name z ≡ true
read_names z r other =
    let s = read_spells z (OperatorOf z) [] z r refl refl in
    by (spells_operator z) s.0 (bytes_eq z (codes "=>")) (λ e. other ((bytes_eq-Decides z (codes "=>")).0 e)) (bytes_eq z (codes "!=")) (λ e. not_equal z e s.1)
  where
    by : (o : Bool) → o ≡ true → (v : Bool) → (v ≡ true → ⊥) → (w : Bool) → (w ≡ true → ⊥) → (o && not v && not w) ≡ true
    by true e true f w g = absurd (f refl)
    by true e false f true g = absurd (g refl)
    by true e false f false g = refl
    by false e v f w g = absurd cc

pub name_is_read : (z : Text) → (is_operator_name z ≡ true) ↔ (Reads z (OperatorOf z) [] × (z ≢ codes "=>"))
name_is_read z = (name_reads z, (λ h. read_names z h.0 h.1))
