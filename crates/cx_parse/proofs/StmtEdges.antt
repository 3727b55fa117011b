-- What declarations and statements begin with.
use Rattle.std.proofs.Common.{◌≡◌, ℕ, ◌<◌, Bool, true, false, ◌&&◌, not, List, [], ◌∷◌, ◌++◌, length, get_or, refl, sym, ap, ◌∙◌, arith, append_assoc, length-append}
use Rattle.std.proofs.lemmas.Bool.{true≢false}
use Rattle.cx_cursor.specs.Reading.{at}
use Rattle.cx_cursor.specs.Sights.{sight_in, word_sight, same_mark, same_key, shows_mark, shows_key, shows_word, sees_mark, sees_key}
use Rattle.cx_cursor.proofs.Readers.{token, same_mark_refl}
use Rattle.cx_words.specs.Beginnings.{shows_spec, begins_spec, begins_member_spec, begins_tagged}
use Rattle.cx_lex.specs.declared.token.Keyword.TheVariants as keywords
use Rattle.cx_lex.specs.declared.token.Punct.TheVariants.{RightBrace, Colon, Semicolon}
use Rattle.cx_lex.specs.declared.token.Token.{Token}
use Rattle.cx_lex.specs.declared.token.TokenKind.TheVariants as kind
use Rattle.cx_parse.proofs.ExprEdges.{before, expr_no_spec, expr_no_mark, expr_no_key}
use Rattle.cx_parse.proofs.ReadsSights.{specs_show, specs_no_mark, declarator_no_mark, colon_other}
use Rattle.cx_parse.proofs.ReadsSpecs.{spec_some}
use Rattle.cx_parse.proofs.ReadsStmts.{no_else_shown}
use Rattle.cx_parse.proofs.SoundDecls.{named_present}
use Rattle.cx_parse.proofs.StoodStmts.{DeclFits, OptionFits, StmtFits, ItemFits, NoElse}
use Rattle.cx_words.specs.Beginnings.{sees_label, sees_decl}
use Rattle.cx_tree.specs.Levels.{expression_level}
use Rattle.cx_tree.specs.Names.{Binding, is_type}
use Rattle.cx_tree.specs.Tokens.{ended, listed, behind_commas, spec_tokens, specs_tokens, declarator_tokens, init_tokens, init_declarator_tokens, init_declarators_tokens, decl_tokens, option_tokens, stmt_tokens, item_tokens}
use Rattle.cx_tree.specs.Trees.{OptionExprTree, no_expr, some_expr, SpecTree, Key, Typedef, Record, Enum, SpecTrees, no_specs, more_specs, InitDeclaratorTree, DeclTree, StmtTree, Label, Case, Default, Block, ExprStmt, If, Switch, While, Do, For, Goto, Continue, Break, Return, ItemTree, Statement, Declared}
use Rattle.cx_tree.specs.Valid.{specs_count, AreValidSpecs, AreValidInitDeclarators, is_present}
use Rattle.cx_tree.specs.Words.{is_storage_class, is_type_word, is_qualifier, is_function_specifier}

-- ---- labels

pub no_both : (a b : Bool) → (a ≡ true → b ≡ false) → (a && b) ≡ false
no_both true b h = h refl
no_both false b h = refl

pub and_false : (a : Bool) → (a && false) ≡ false
and_false true = refl
and_false false = refl

pub both_true : (a b : Bool) → a ≡ true → b ≡ true → (a && b) ≡ true
both_true true b e f = f
both_true false b e f = absurd (true≢false (sym e))

-- ---- declarations

-- behind the specifiers stands no colon
declared_no_colon : (ds : List InitDeclaratorTree) (lines : List ℕ) (names : List Binding) (rest : List Token) → AreValidInitDeclarators ds
    → shows_mark Colon (sight_in names (listed (ended Semicolon) (init_declarators_tokens ds) lines ++ rest)) ≡ false
unfolding same_mark
declared_no_colon [] lines names rest valid = refl
declared_no_colon (d ∷ ds) lines names rest valid =
    let others : List Token = behind_commas (ended Semicolon) (init_declarators_tokens ds) lines in
    let present : is_present d.declarator ≡ true = named_present d.declarator valid.0.fits in
    ap (λ (ts : List Token). shows_mark Colon (sight_in names ts))
    (append_assoc (init_declarator_tokens d) others rest ∙ append_assoc (declarator_tokens d.declarator) (init_tokens d.lines d.init) (others ++ rest))
    ∙ declarator_no_mark Colon d.declarator names (init_tokens d.lines d.init ++ (others ++ rest)) colon_other (λ none. absurd (true≢false (sym present ∙ none)))

-- behind the first specifier stands no colon
behind_no_colon : (ss : SpecTrees) (names : List Binding) (rest : List Token) → shows_mark Colon (sight_in names rest) ≡ false → shows_mark Colon (sight_in names (specs_tokens ss ++ rest)) ≡ false
behind_no_colon no_specs names rest none = none
behind_no_colon (more_specs s ss) names rest none = specs_no_mark Colon (more_specs s ss) names rest (omega arith)

spec_no_label : (s : SpecTree) (ss : SpecTrees) (names : List Binding) (rest : List Token) → shows_mark Colon (sight_in names (specs_tokens ss ++ rest)) ≡ false
    → sees_label (at (spec_tokens s ++ (specs_tokens ss ++ rest)) names) ≡ false
spec_no_label (Typedef name lines) ss names rest none = no_both (shows_word (word_sight (is_type names name))) (shows_mark Colon (sight_in names (specs_tokens ss ++ rest))) (λ _. none)
spec_no_label (Key word lines) ss names rest none = refl
spec_no_label (Record is_union tag _ lines) ss names rest none = refl
spec_no_label (Enum tag list last_comma lines) ss names rest none = refl

specs_no_label : (ss : SpecTrees) (names : List Binding) (rest : List Token) → 0 < specs_count ss → shows_mark Colon (sight_in names rest) ≡ false
    → sees_label (at (specs_tokens ss ++ rest) names) ≡ false
specs_no_label no_specs names rest some none = absurd (omega arith)
specs_no_label (more_specs s ss) names rest some none =
    ap (λ (ts : List Token). sees_label (at ts names)) (append_assoc (spec_tokens s) (specs_tokens ss) rest) ∙ spec_no_label s ss names rest (behind_no_colon ss names rest none)

-- a declaration is seen as one
pub decl_seen : (most : ℕ) (d : DeclTree) (names : List Binding) (rest : List Token) → DeclFits most names d → sees_decl (at (decl_tokens d ++ rest) names) ≡ true
decl_seen most d names rest fits =
    let behind : List Token = listed (ended Semicolon) (init_declarators_tokens d.list) d.lines in
    let shows : shows_spec true false (sight_in names (specs_tokens d.specs ++ (behind ++ rest))) ≡ true =
    specs_show true false d.specs names (behind ++ rest) fits.valid.first.present fits.valid.first.each fits.stands.specs (λ e. absurd (true≢false e)) in
    let unlabelled : sees_label (at (specs_tokens d.specs ++ (behind ++ rest)) names) ≡ false =
    specs_no_label d.specs names (behind ++ rest) fits.valid.first.present (declared_no_colon d.list d.lines names rest fits.valid.second) in
    ap (λ (ts : List Token). sees_decl (at ts names)) (append_assoc (specs_tokens d.specs) behind rest)
    ∙ both_true (shows_spec true false (sight_in names (specs_tokens d.specs ++ (behind ++ rest)))) (not (sees_label (at (specs_tokens d.specs ++ (behind ++ rest)) names))) shows (ap not unlabelled)

-- no mark and no `else` is in front of specifiers
spec_no_else : (s : SpecTree) (names : List Binding) (rest : List Token) → AreValidSpecs (more_specs s no_specs) → shows_key keywords.Else (sight_in names (spec_tokens s ++ rest)) ≡ false
unfolding same_key is_storage_class is_type_word is_qualifier is_function_specifier
spec_no_else (Typedef name lines) names rest valid = word_no_key (is_type names name) where
  word_no_key : (b : Bool) → shows_key keywords.Else (word_sight b) ≡ false
  word_no_key true = refl
  word_no_key false = refl
spec_no_else (Key keywords.Else lines) names rest valid = absurd (true≢false (sym valid.0.part))
spec_no_else (Key _ lines) names rest valid = refl
spec_no_else (Record true tag _ lines) names rest valid = refl
spec_no_else (Record false tag _ lines) names rest valid = refl
spec_no_else (Enum tag list last_comma lines) names rest valid = refl

pub specs_no_else : (ss : SpecTrees) (names : List Binding) (rest : List Token) → 0 < specs_count ss → AreValidSpecs ss → shows_key keywords.Else (sight_in names (specs_tokens ss ++ rest)) ≡ false
specs_no_else no_specs names rest some valid = absurd (omega arith)
specs_no_else (more_specs s ss) names rest some valid =
    ap (λ (ts : List Token). shows_key keywords.Else (sight_in names ts)) (append_assoc (spec_tokens s) (specs_tokens ss) rest) ∙ spec_no_else s names (specs_tokens ss ++ rest) (valid.0, tt)

pub specs_some : (ss : SpecTrees) → 0 < specs_count ss → 0 < length (specs_tokens ss)
specs_some no_specs some = absurd (omega arith)
specs_some (more_specs s ss) some = let a = spec_some s in let b = length-append (spec_tokens s) (specs_tokens ss) in omega (arith, a, b)

-- ---- statements

-- an expression before a semicolon is no declaration
pub option_unseen : (most : ℕ) (e : OptionExprTree) (names : List Binding) (line : ℕ) (rest : List Token) → OptionFits most expression_level names e
    → sees_decl (at (option_tokens e ++ (token (kind.Mark Semicolon) line ∷ rest)) names) ≡ false
option_unseen most no_expr names line rest fits = refl
option_unseen most (some_expr e) names line rest fits =
    ap (λ (b : Bool). b && not (sees_label (before e (token (kind.Mark Semicolon) line ∷ rest) names)))
    (expr_no_spec e names (token (kind.Mark Semicolon) line ∷ rest) true false fits.valid.valid fits.stands)

-- what is seen of the first token of a statement
pub record StmtSeen (s : StmtTree) (names : List Binding) (rest : List Token) : Type 0 where
  pub brace : sees_mark RightBrace (at (stmt_tokens s ++ rest) names) ≡ false
  pub closed : sees_key keywords.Else (at (stmt_tokens s ++ rest) names) ≡ false
  pub decl : sees_decl (at (stmt_tokens s ++ rest) names) ≡ false
  pub some : 0 < length (stmt_tokens s)

label_seen : (name : List ℕ) (s : StmtTree) (lines : List ℕ) (names : List Binding) (rest : List Token) → StmtSeen (Label name s lines) names rest
label_seen name s lines names rest = by_type (is_type names name) refl where
  by_type : (b : Bool) → is_type names name ≡ b → StmtSeen (Label name s lines) names rest
  by_type true e = record {
    brace = ap (λ (b : Bool). shows_mark RightBrace (word_sight b)) e;
    closed = ap (λ (b : Bool). shows_key keywords.Else (word_sight b)) e;
    decl = ap (λ (b : Bool). shows_spec true false (word_sight b) && not (shows_word (word_sight b) && same_mark Colon Colon)) e ∙ ap not (same_mark_refl Colon);
    some = omega arith;
  }
  by_type false e = record {
    brace = ap (λ (b : Bool). shows_mark RightBrace (word_sight b)) e;
    closed = ap (λ (b : Bool). shows_key keywords.Else (word_sight b)) e;
    decl = ap (λ (b : Bool). shows_spec true false (word_sight b) && not (shows_word (word_sight b) && same_mark Colon Colon)) e;
    some = omega arith;
  }

expr_seen : (most : ℕ) (e : OptionExprTree) (lines : List ℕ) (names : List Binding) (rest : List Token) → StmtFits most names (ExprStmt e lines) → StmtSeen (ExprStmt e lines) names rest
unfolding same_mark same_key
expr_seen most no_expr lines names rest fits = record { brace = refl; closed = refl; decl = refl; some = omega arith }
expr_seen most (some_expr e) lines names rest fits =
    let closing : List Token = token (kind.Mark Semicolon) (get_or lines 0 0) ∷ [] in
    let text = append_assoc (option_tokens (some_expr e)) closing rest in
    let valid = fits.valid.part.valid in
    record {
      brace = ap (λ (ts : List Token). sees_mark RightBrace (at ts names)) text ∙ expr_no_mark RightBrace e names (closing ++ rest) valid fits.stands refl;
      closed = ap (λ (ts : List Token). sees_key keywords.Else (at ts names)) text ∙ expr_no_key keywords.Else e names (closing ++ rest) valid fits.stands refl;
      decl = ap (λ (ts : List Token). sees_decl (at ts names)) text
          ∙ ap (λ (b : Bool). b && not (sees_label (before e (closing ++ rest) names))) (expr_no_spec e names (closing ++ rest) true false valid fits.stands);
      some = let b = length-append (option_tokens (some_expr e)) closing in omega (arith, b);
    }

pub stmt_seen : (most : ℕ) (s : StmtTree) (names : List Binding) (rest : List Token) → StmtFits most names s → StmtSeen s names rest
unfolding same_mark same_key begins_spec begins_member_spec begins_tagged is_type_word is_qualifier is_storage_class is_function_specifier
stmt_seen most (Label name s lines) names rest fits = label_seen name s lines names rest
stmt_seen most (ExprStmt e lines) names rest fits = expr_seen most e lines names rest fits
stmt_seen most (Case value s lines) names rest fits = record { brace = refl; closed = refl; decl = refl; some = omega arith }
stmt_seen most (Default s lines) names rest fits = record { brace = refl; closed = refl; decl = refl; some = omega arith }
stmt_seen most (Block items lines) names rest fits = record { brace = refl; closed = refl; decl = refl; some = omega arith }
stmt_seen most (If condition branch otherwise lines) names rest fits = record { brace = refl; closed = refl; decl = refl; some = omega arith }
stmt_seen most (Switch on body lines) names rest fits = record { brace = refl; closed = refl; decl = refl; some = omega arith }
stmt_seen most (While condition body lines) names rest fits = record { brace = refl; closed = refl; decl = refl; some = omega arith }
stmt_seen most (Do body condition lines) names rest fits = record { brace = refl; closed = refl; decl = refl; some = omega arith }
stmt_seen most (For first second third body lines) names rest fits = record { brace = refl; closed = refl; decl = refl; some = omega arith }
stmt_seen most (Goto name lines) names rest fits = record { brace = refl; closed = refl; decl = refl; some = omega arith }
stmt_seen most (Continue lines) names rest fits = record { brace = refl; closed = refl; decl = refl; some = omega arith }
stmt_seen most (Break lines) names rest fits = record { brace = refl; closed = refl; decl = refl; some = omega arith }
stmt_seen most (Return value lines) names rest fits = record { brace = refl; closed = refl; decl = refl; some = omega arith }

-- ---- the items of a block

pub record ItemSeen (i : ItemTree) (names : List Binding) (rest : List Token) : Type 0 where
  pub brace : sees_mark RightBrace (at (item_tokens i ++ rest) names) ≡ false
  pub closed : NoElse (item_tokens i ++ rest)
  pub some : 0 < length (item_tokens i)

pub item_seen : (most : ℕ) (i : ItemTree) (names : List Binding) (rest : List Token) → ItemFits most names i → ItemSeen i names rest
item_seen most (Statement s) names rest fits =
    let seen = stmt_seen most s names rest (record { valid = fits.valid; stands = fits.stands; deep = fits.deep }) in
    record { brace = seen.brace; closed = no_else_shown names (stmt_tokens s ++ rest) seen.closed; some = seen.some }
item_seen most (Declared d) names rest fits =
    let behind : List Token = listed (ended Semicolon) (init_declarators_tokens d.list) d.lines in
    let text = append_assoc (specs_tokens d.specs) behind rest in
    let present = fits.valid.first.present in
    record {
      brace = ap (λ (ts : List Token). sees_mark RightBrace (at ts names)) text ∙ specs_no_mark RightBrace d.specs names (behind ++ rest) present;
      closed = no_else_shown names (decl_tokens d ++ rest)
          (ap (λ (ts : List Token). sees_key keywords.Else (at ts names)) text ∙ specs_no_else d.specs names (behind ++ rest) present fits.valid.first.each);
      some = let a = specs_some d.specs present in let b = length-append (specs_tokens d.specs) behind in omega (arith, a, b);
    }
