-- Statements with branches and bodies, and blocks, are sound.
use Rattle.std.proofs.Common.{◌≡◌, ℕ, suc, ◌≤◌, Bool, true, false, not, Some, List, [], ◌∷◌, ◌++◌, length, fold, refl, sym, ap, ◌∙◌, subst, arith, append_assoc, length-append}
use Rattle.std.proofs.lemmas.Bool.{true≢false}
use Rattle.std.proofs.lemmas.List.{append-nil}
use Rattle.std.specs.Prelude.{⊤}
use Rattle.cx_cursor.specs.Lists.{many_ahead, taking}
use Rattle.cx_cursor.specs.Reading.{State, at, Reader, bind, scoped}
use Rattle.cx_cursor.specs.Sights.{word_sight, shows_key, sees_key, mark, key}
use Rattle.cx_cursor.proofs.Readers.{Gives, gives_bind, gives_pure, gives_if, Took, TookOne, took_both, took_one, one_then, then_one, token, mark_gives, key_gives}
use Rattle.cx_expr.specs.Knot.{readers}
use Rattle.cx_lex.specs.declared.token.Keyword.{Keyword}
use Rattle.cx_lex.specs.declared.token.Keyword.TheVariants as keywords
use Rattle.cx_lex.specs.declared.token.Punct.TheVariants.{LeftParenthesis, RightParenthesis, LeftBrace, RightBrace, Semicolon}
use Rattle.cx_lex.specs.declared.token.Token.{Token}
use Rattle.cx_lex.specs.declared.token.TokenKind.{TokenKind}
use Rattle.cx_lex.specs.declared.token.TokenKind.TheVariants as kind
use Rattle.cx_parse.proofs.Lists.{each_of, Each, Items, many_ahead_sound}
use Rattle.cx_parse.proofs.SoundStmts.{never_open, Left, scoped_gives, left_names, option_sound, HeadStood, head_sound}
use Rattle.cx_parse.proofs.Stood.{AllSound}
use Rattle.cx_parse.proofs.StoodStmts.{OptionFits, DeclStood, FirstFits, StmtFits, StmtStood, ItemFits, ItemStood}
use Rattle.cx_stmt.specs.Declarations.{decl}
use Rattle.cx_words.specs.Beginnings.{sees_decl}
use Rattle.cx_stmt.specs.Stmts.{option_expr, HeadRead, head, ForRead, for_read, FirstRead, first_read, first_value, first_clause, clauses, with_item, sees_end, item, block_items, block_from, part, else_branch, behind_branch, if_stmt, switch_stmt, while_stmt, do_stmt, for_stmt}
use Rattle.cx_tree.specs.Depth.{items_depth}
use Rattle.cx_tree.specs.Levels.{expression_level}
use Rattle.cx_tree.specs.Names.{Binding, new_expr, new_option, new_first, new_stmt, new_item, ExprStands, StmtStands, ItemsStand}
use Rattle.cx_tree.specs.Tokens.{expr_tokens, option_tokens, first_tokens, behind_first, clauses_tokens, stmt_tokens, item_tokens, items_tokens}
use Rattle.cx_tree.specs.Trees.{FirstValue, FirstDeclared, StmtTree, Block, If, Switch, While, Do, For, no_stmt, some_stmt, ItemTree, Statement, Declared}
use Rattle.cx_tree.specs.Valid.{is_block, is_open, first_own, AreValidItems}
use Rattle.cx_tree.specs.Views.{items}

-- ---- keywords ahead don't depend on the names in scope

word_no_key : (k : Keyword) (b : Bool) → shows_key k (word_sight b) ≡ false
word_no_key k true = refl
word_no_key k false = refl

kind_key : (k : Keyword) (line : ℕ) (rest : List Token) (names others : List Binding) (front : TokenKind)
    → sees_key k (at (record { kind = front; line = line } ∷ rest) names) ≡ sees_key k (at (record { kind = front; line = line } ∷ rest) others)
kind_key k line rest names others (kind.Word name) = word_no_key k _ ∙ sym (word_no_key k _)
kind_key k line rest names others (kind.Key found) = refl
kind_key k line rest names others (kind.Number value ty) = refl
kind_key k line rest names others (kind.Letter value) = refl
kind_key k line rest names others (kind.Text bytes) = refl
kind_key k line rest names others (kind.Mark punct) = refl

pub key_nameless : (k : Keyword) (tokens : List Token) (names others : List Binding) → sees_key k (at tokens names) ≡ sees_key k (at tokens others)
key_nameless k [] names others = refl
key_nameless k (t ∷ rest) names others = kind_key k t.line rest names others t.kind

-- ---- scopes

-- a statement that is a scope, and brings nothing into the one that it stands in
abbrev pub IsScope : StmtTree → Type 0
IsScope s = new_stmt s ≡ []

abbrev pub IsBlock : StmtTree → Type 0
IsBlock s = (new_stmt s ≡ []) × (is_block s ≡ true)

abbrev pub AnyStmt : StmtTree → Type 0
AnyStmt s = ⊤

-- a statement in a scope of its own: it brings nothing into scope
pub record PartStood (Quiet : StmtTree → Type 0) (most : ℕ) (state : State) (s : StmtTree) (after : State) : Type 0 where
  pub took : Took (stmt_tokens s) [] state after
  pub fits : StmtFits most state.names s
  pub closed : is_open s ≡ true → sees_key keywords.Else after ≡ false
  pub quiet : Quiet s

-- a statement at whose end the scope that it begins isn't left yet
pub record InScope (Quiet : StmtTree → Type 0) (most : ℕ) (state : State) (s : StmtTree) (after : State) : Type 0 where
  pub new : List Binding
  pub took : Took (stmt_tokens s) new state after
  pub fits : StmtFits most state.names s
  pub closed : is_open s ≡ true → sees_key keywords.Else after ≡ false
  pub quiet : Quiet s

still_closed : (s : StmtTree) (mid after : State) (names : List Binding) → after ≡ at mid.tokens names → (is_open s ≡ true → sees_key keywords.Else mid ≡ false)
    → is_open s ≡ true → sees_key keywords.Else after ≡ false
still_closed s mid after names is closed o =
    ap (λ (s : State). sees_key keywords.Else s) is ∙ key_nameless keywords.Else mid.tokens names mid.names ∙ closed o

pub part_left : (Quiet : StmtTree → Type 0) (most : ℕ) (state : State) (s : StmtTree) (after : State) → Left (InScope Quiet most state) state s after → PartStood Quiet most state s after
part_left Quiet most state s after left =
    let inside = left.held in
    record {
      took = left_names (stmt_tokens s) inside.new state left.mid after inside.took left.is;
      fits = inside.fits;
      closed = still_closed s left.mid after _ left.is inside.closed;
      quiet = inside.quiet;
    }

in_scope : (most : ℕ) (state : State) (s : StmtTree) (after : State) → StmtStood most state s after → InScope AnyStmt most state s after
in_scope most state s after one = record { new = new_stmt s; took = one.stood.took; fits = one.stood.fits; closed = one.closed; quiet = tt }

pub gives_more : {A : Type 0} (read : Reader A) (P Q : A → State → Type 0) (state : State) → ((a : A) (after : State) → P a after → Q a after) → Gives read P state → Gives read Q state
gives_more read P Q state more gives a after e = more a after (gives a after e)

pub scope_sound : (Quiet : StmtTree → Type 0) (read : Reader StmtTree) (most : ℕ) (state : State) → Gives read (InScope Quiet most state) state → Gives (scoped read) (PartStood Quiet most state) state
scope_sound Quiet read most state gives =
    gives_more (scoped read) (Left (InScope Quiet most state) state) (PartStood Quiet most state) state (λ s after left. part_left Quiet most state s after left)
    (scoped_gives read (InScope Quiet most state) state gives)

-- ---- a head and what stands behind it

pub head_then : (depth : ℕ) (keyword : Keyword) (state : State) (read : HeadRead) (mid after : State) (more : List Token) (further : List Binding)
    → (one : HeadStood depth keyword state read mid) → Took more further mid after
    → Took (token (kind.Key keyword) one.first ∷ token (kind.Mark LeftParenthesis) one.second ∷ (expr_tokens read.expr ++ (token (kind.Mark RightParenthesis) one.third ∷ more)))
    (new_expr read.expr ++ further) state after
head_then depth keyword state read mid after more further one rest =
    let front : List Token = token (kind.Key keyword) one.first ∷ token (kind.Mark LeftParenthesis) one.second ∷ (expr_tokens read.expr ++ token (kind.Mark RightParenthesis) one.third ∷ []) in
    subst (λ (ts : List Token). Took (token (kind.Key keyword) one.first ∷ token (kind.Mark LeftParenthesis) one.second ∷ ts) (new_expr read.expr ++ further) state after)
    (append_assoc (expr_tokens read.expr) (token (kind.Mark RightParenthesis) one.third ∷ []) more)
    (took_both front more (new_expr read.expr) further state mid after one.took rest)

-- the names behind a part that brings nothing into scope
pub same_names : (front : List Token) (state after : State) → Took front [] state after → after.names ≡ state.names
same_names front state after took = took.scope ∙ append-nil state.names

-- ---- the items of a block

pub tokens_of_items : (is : List ItemTree) → items_tokens (items is) ≡ each_of item_tokens is
tokens_of_items [] = refl
tokens_of_items (i ∷ is) = ap (λ (ts : List Token). item_tokens i ++ ts) (tokens_of_items is)

pub all_taken : (is all : List ItemTree) → fold with_item all is ≡ all ++ is
all_taken [] all = sym (append-nil all)
all_taken (i ∷ is) all = all_taken is (all ++ i ∷ []) ∙ append_assoc all (i ∷ []) is

pub record ItemsFit (most : ℕ) (names : List Binding) (is : List ItemTree) : Type 0 where
  pub valid : AreValidItems (items is)
  pub stands : ItemsStand names (items is)
  pub deep : items_depth (items is) ≤ most

pub items_fit : (most : ℕ) (is all : List ItemTree) (names : List Binding) → Each (λ all names i. ItemFits most names i) new_item with_item all names is → ItemsFit most names is
items_fit most [] all names good = record { valid = tt; stands = tt; deep = omega arith }
items_fit most (i ∷ is) all names good =
    let rest = items_fit most is (all ++ i ∷ []) (names ++ new_item i) good.1 in
    let one : ItemFits most names i = good.0 in
    record { valid = (one.valid, rest.valid); stands = (one.stands, rest.stands); deep = let a = one.deep in let b = rest.deep in omega (arith, a, b) }

module _ (stmt : Reader StmtTree) (depth : ℕ) (sound : AllSound (readers depth) depth) (stmt_sound : (state : State) → Gives stmt (StmtStood depth state) state)
    (decl_sound : (state : State) → Gives (decl depth) (DeclStood depth state) state) where
  part_stood : (state : State) → Gives (part stmt depth) (PartStood AnyStmt depth state) state
  unfolding part
  part_stood state = scope_sound AnyStmt stmt depth state (gives_more stmt (StmtStood depth state) (InScope AnyStmt depth state) state (λ s after one. in_scope depth state s after one) (stmt_sound state))

  pub switch_sound : (state : State) → Gives (switch_stmt stmt depth) (PartStood IsScope (suc depth) state) state
  unfolding switch_stmt
  switch_sound state =
      scope_sound IsScope _ (suc depth) state (gives_bind (head depth keywords.Switch) _ _ _ state (head_sound stmt depth sound stmt_sound keywords.Switch state) (λ read s1 one.
      gives_bind (part stmt depth) _ _ _ s1 (part_stood s1) (λ body s2 two.
      gives_pure (Switch read.expr body read.lines) (InScope IsScope (suc depth) state) s2
      (subst (λ (ls : List ℕ). InScope IsScope (suc depth) state (Switch read.expr body ls) s2) (sym one.lines) (record {
        new = new_expr read.expr ++ [];
        took = head_then depth keywords.Switch state read s1 s2 (stmt_tokens body) [] one two.took;
        fits = record {
          valid = record { first = one.fits.valid; second = two.fits.valid; own = refl };
          stands = (one.fits.stands, subst (λ (names : List Binding). StmtStands names body) one.took.scope two.fits.stands);
          deep = let a = one.fits.deep in let b = two.fits.deep in omega (arith, a, b);
        };
        closed = two.closed;
        quiet = refl;
      })))))

  pub while_sound : (state : State) → Gives (while_stmt stmt depth) (PartStood IsScope (suc depth) state) state
  unfolding while_stmt
  while_sound state =
      scope_sound IsScope _ (suc depth) state (gives_bind (head depth keywords.While) _ _ _ state (head_sound stmt depth sound stmt_sound keywords.While state) (λ read s1 one.
      gives_bind (part stmt depth) _ _ _ s1 (part_stood s1) (λ body s2 two.
      gives_pure (While read.expr body read.lines) (InScope IsScope (suc depth) state) s2
      (subst (λ (ls : List ℕ). InScope IsScope (suc depth) state (While read.expr body ls) s2) (sym one.lines) (record {
        new = new_expr read.expr ++ [];
        took = head_then depth keywords.While state read s1 s2 (stmt_tokens body) [] one two.took;
        fits = record {
          valid = record { first = one.fits.valid; second = two.fits.valid; own = refl };
          stands = (one.fits.stands, subst (λ (names : List Binding). StmtStands names body) one.took.scope two.fits.stands);
          deep = let a = one.fits.deep in let b = two.fits.deep in omega (arith, a, b);
        };
        closed = two.closed;
        quiet = refl;
      })))))

  pub do_sound : (state : State) → Gives (do_stmt stmt depth) (PartStood IsScope (suc depth) state) state
  unfolding do_stmt
  do_sound state =
      scope_sound IsScope _ (suc depth) state (gives_bind (key keywords.Do) _ _ _ state (key_gives keywords.Do state) (λ first s1 one.
      gives_bind (part stmt depth) _ _ _ s1 (part_stood s1) (λ body s2 two.
      gives_bind (head depth keywords.While) _ _ _ s2 (head_sound stmt depth sound stmt_sound keywords.While s2) (λ read s3 three.
      gives_bind (mark Semicolon) _ _ _ s3 (mark_gives Semicolon s3) (λ last s4 four.
      gives_pure (Do body read.expr (first ∷ (read.lines ++ last ∷ []))) (InScope IsScope (suc depth) state) s4
      (subst (λ (ls : List ℕ). InScope IsScope (suc depth) state (Do body read.expr (first ∷ (ls ++ last ∷ []))) s4) (sym three.lines) (record {
        new = [] ++ (new_expr read.expr ++ []);
        took = one_then (token (kind.Key keywords.Do) first) _ ([] ++ (new_expr read.expr ++ [])) state s1 s4 one
            (took_both (stmt_tokens body) _ [] (new_expr read.expr ++ []) s1 s2 s4 two.took
            (head_then depth keywords.While s2 read s3 s4 (token (kind.Mark Semicolon) last ∷ []) [] three (took_one (token (kind.Mark Semicolon) last) s3 s4 four)));
        fits = record {
          valid = record { first = two.fits.valid; second = three.fits.valid; own = refl };
          stands = (
            subst (λ (names : List Binding). StmtStands names body) one.same two.fits.stands,
            subst (λ (names : List Binding). ExprStands names read.expr) (same_names (stmt_tokens body) s1 s2 two.took ∙ one.same) three.fits.stands,
          );
          deep = let a = three.fits.deep in let b = two.fits.deep in omega (arith, a, b);
        };
        closed = never_open;
        quiet = refl;
      })))))))

  -- ---- `if` (6.8.4.1)

  -- a branch behind a head that began at `start`
  if_of : (start s1 s2 : State) (read : HeadRead) (branch : StmtTree) → HeadStood depth keywords.If start read s1 → PartStood AnyStmt depth s1 branch s2
      → sees_key keywords.Else s2 ≡ false → InScope IsScope (suc depth) start (If read.expr branch no_stmt read.lines) s2
  if_of start s1 s2 read branch one two none =
      subst (λ (ls : List ℕ). InScope IsScope (suc depth) start (If read.expr branch no_stmt ls) s2) (sym one.lines) (record {
        new = new_expr read.expr ++ [];
        took = head_then depth keywords.If start read s1 s2 (stmt_tokens branch ++ []) [] one
            (subst (λ (ts : List Token). Took ts [] s1 s2) (sym (append-nil (stmt_tokens branch))) two.took);
        fits = record {
          valid = record { condition = one.fits.valid; branch = two.fits.valid; closed = refl; otherwise = tt; own = refl };
          stands = record { first = one.fits.stands; second = subst (λ (names : List Binding). StmtStands names branch) one.took.scope two.fits.stands; third = tt };
          deep = let a = one.fits.deep in let b = two.fits.deep in omega (arith, a, b);
        };
        closed = λ _. none;
        quiet = refl;
      })

  not_open : (branch : StmtTree) (s2 : State) (test : Bool) → is_open branch ≡ test → (is_open branch ≡ true → sees_key keywords.Else s2 ≡ false) → sees_key keywords.Else s2 ≡ true
      → is_open branch ≡ false
  not_open branch s2 true is closed sees = absurd (true≢false (sym sees ∙ closed is))
  not_open branch s2 false is closed sees = is

  else_sound : (start s1 s2 : State) (read : HeadRead) (branch : StmtTree) → HeadStood depth keywords.If start read s1 → PartStood AnyStmt depth s1 branch s2 → sees_key keywords.Else s2 ≡ true
      → Gives (else_branch stmt depth read branch) (InScope IsScope (suc depth) start) s2
  unfolding else_branch
  else_sound start s1 s2 read branch one two sees =
      gives_bind (key keywords.Else) _ _ _ s2 (key_gives keywords.Else s2) (λ last s3 three.
      gives_bind (part stmt depth) _ _ _ s3 (part_stood s3) (λ otherwise s4 four.
      let shut : is_open branch ≡ false = not_open branch s2 (is_open branch) refl two.closed sees in
      let back : s3.names ≡ start.names ++ new_expr read.expr = three.same ∙ same_names (stmt_tokens branch) s1 s2 two.took ∙ one.took.scope in
      gives_pure (If read.expr branch (some_stmt otherwise) (read.lines ++ last ∷ [])) (InScope IsScope (suc depth) start) s4
      (subst (λ (ls : List ℕ). InScope IsScope (suc depth) start (If read.expr branch (some_stmt otherwise) (ls ++ last ∷ [])) s4) (sym one.lines) (record {
        new = new_expr read.expr ++ ([] ++ []);
        took = head_then depth keywords.If start read s1 s4 (stmt_tokens branch ++ (token (kind.Key keywords.Else) last ∷ stmt_tokens otherwise)) ([] ++ []) one
            (took_both (stmt_tokens branch) (token (kind.Key keywords.Else) last ∷ stmt_tokens otherwise) [] [] s1 s2 s4 two.took
            (one_then (token (kind.Key keywords.Else) last) (stmt_tokens otherwise) [] s2 s3 s4 three four.took));
        fits = record {
          valid = record { condition = one.fits.valid; branch = two.fits.valid; closed = ap not shut; otherwise = four.fits.valid; own = refl };
          stands = record {
            first = one.fits.stands;
            second = subst (λ (names : List Binding). StmtStands names branch) one.took.scope two.fits.stands;
            third = subst (λ (names : List Binding). StmtStands names otherwise) back four.fits.stands;
          };
          deep = let a = one.fits.deep in let b = two.fits.deep in let c = four.fits.deep in omega (arith, a, b, c);
        };
        closed = four.closed;
        quiet = refl;
      }))))

  pub if_sound : (state : State) → Gives (if_stmt stmt depth) (PartStood IsScope (suc depth) state) state
  unfolding if_stmt behind_branch
  if_sound state =
      scope_sound IsScope _ (suc depth) state (gives_bind (head depth keywords.If) _ _ _ state (head_sound stmt depth sound stmt_sound keywords.If state) (λ read s1 one.
      gives_bind (part stmt depth) _ _ _ s1 (part_stood s1) (λ branch s2 two.
      gives_if (sees_key keywords.Else) (else_branch stmt depth read branch) (λ s. Some (If read.expr branch no_stmt read.lines, s)) (InScope IsScope (suc depth) state) s2
      (λ sees. else_sound state s1 s2 read branch one two sees)
      (λ none. gives_pure (If read.expr branch no_stmt read.lines) (InScope IsScope (suc depth) state) s2 (if_of state s1 s2 read branch one two none)))))

  -- ---- `for` (6.8.5.3)

  -- the first clause, with the line of its semicolon, which a declaration prints itself
  record FirstStood (before : List ℕ) (state : State) (read : FirstRead) (after : State) : Type 0 where
    own : List ℕ
    front : List Token
    lines : read.lines ≡ before ++ own
    count : length own ≡ first_own read.first
    tokens : (more : List ℕ) → first_tokens read.first (own ++ more) ≡ front
    behind : (more : List ℕ) → behind_first read.first (own ++ more) ≡ more
    took : Took front (new_first read.first) state after
    fits : FirstFits depth state.names read.first

  first_value_sound : (lines : List ℕ) (state : State) → Gives (first_value depth lines) (FirstStood lines state) state
  unfolding first_value
  first_value_sound lines state =
      gives_bind (option_expr depth Semicolon) _ _ _ state (option_sound depth sound Semicolon state) (λ e s1 one.
      gives_bind (mark Semicolon) _ _ _ s1 (mark_gives Semicolon s1) (λ last s2 two.
      gives_pure (first_read (FirstValue e) (lines ++ last ∷ [])) (FirstStood lines state) s2 (record {
        own = last ∷ [];
        front = option_tokens e ++ token (kind.Mark Semicolon) last ∷ [];
        lines = refl;
        count = refl;
        tokens = λ more. refl;
        behind = λ more. refl;
        took = then_one (token (kind.Mark Semicolon) last) (option_tokens e) (new_option e) state s1 s2 one.took two;
        fits = record { valid = one.fits.valid; stands = one.fits.stands; deep = one.fits.deep };
      })))

  first_sound : (lines : List ℕ) (state : State) → Gives (first_clause depth lines) (FirstStood lines state) state
  unfolding first_clause
  first_sound lines state =
      gives_if sees_decl (bind (decl depth) (λ d. λ s. Some (first_read (FirstDeclared d) lines, s))) (first_value depth lines) (FirstStood lines state) state
      (λ _. gives_bind (decl depth) _ _ _ state (decl_sound state) (λ d s1 one.
      gives_pure (first_read (FirstDeclared d) lines) (FirstStood lines state) s1 (record {
        own = [];
        front = _;
        lines = sym (append-nil lines);
        count = refl;
        tokens = λ more. refl;
        behind = λ more. refl;
        took = one.took;
        fits = record { valid = one.fits.valid; stands = one.fits.stands; deep = one.fits.deep };
      })))
      (λ _. first_value_sound lines state)

  -- the clauses in their parentheses, behind the keyword
  record ClausesStood (state : State) (read : ForRead) (after : State) : Type 0 where
    word : ℕ
    left : ℕ
    own : List ℕ
    last : ℕ
    close : ℕ
    front : List Token
    lines : read.lines ≡ word ∷ left ∷ (own ++ last ∷ close ∷ [])
    count : length own ≡ first_own read.first
    tokens : (more : List ℕ) → first_tokens read.first (own ++ more) ≡ front
    behind : (more : List ℕ) → behind_first read.first (own ++ more) ≡ more
    took : Took (token (kind.Key keywords.For) word ∷ token (kind.Mark LeftParenthesis) left ∷ (front ++ clauses_tokens read.second read.third (last ∷ close ∷ [])))
        (new_first read.first ++ (new_option read.second ++ new_option read.third)) state after
    first : FirstFits depth state.names read.first
    second : OptionFits depth expression_level (state.names ++ new_first read.first) read.second
    third : OptionFits depth expression_level ((state.names ++ new_first read.first) ++ new_option read.second) read.third

  clauses_sound : (state : State) → Gives (clauses depth) (ClausesStood state) state
  unfolding clauses
  clauses_sound state =
      gives_bind (key keywords.For) _ _ _ state (key_gives keywords.For state) (λ word s1 a.
      gives_bind (mark LeftParenthesis) _ _ _ s1 (mark_gives LeftParenthesis s1) (λ left s2 b.
      gives_bind (first_clause depth (word ∷ left ∷ [])) _ _ _ s2 (first_sound (word ∷ left ∷ []) s2) (λ f s3 c.
      gives_bind (option_expr depth Semicolon) _ _ _ s3 (option_sound depth sound Semicolon s3) (λ second s4 d.
      gives_bind (mark Semicolon) _ _ _ s4 (mark_gives Semicolon s4) (λ last s5 e.
      gives_bind (option_expr depth RightParenthesis) _ _ _ s5 (option_sound depth sound RightParenthesis s5) (λ third s6 g.
      gives_bind (mark RightParenthesis) _ _ _ s6 (mark_gives RightParenthesis s6) (λ close s7 h.
      let names : s2.names ≡ state.names = b.same ∙ a.same in
      let names3 : s3.names ≡ state.names ++ new_first f.first = c.took.scope ∙ ap (λ (bs : List Binding). bs ++ new_first f.first) names in
      let names5 : s5.names ≡ (state.names ++ new_first f.first) ++ new_option second = e.same ∙ d.took.scope ∙ ap (λ (bs : List Binding). bs ++ new_option second) names3 in
      gives_pure (for_read f.first second third (f.lines ++ last ∷ close ∷ [])) (ClausesStood state) s7 (record {
        word = word;
        left = left;
        own = c.own;
        last = last;
        close = close;
        front = c.front;
        lines = ap (λ (ls : List ℕ). ls ++ last ∷ close ∷ []) c.lines;
        count = c.count;
        tokens = c.tokens;
        behind = c.behind;
        took = one_then (token (kind.Key keywords.For) word) _ (new_first f.first ++ (new_option second ++ new_option third)) state s1 s7 a
            (one_then (token (kind.Mark LeftParenthesis) left) _ (new_first f.first ++ (new_option second ++ new_option third)) s1 s2 s7 b
            (took_both c.front (clauses_tokens second third (last ∷ close ∷ [])) (new_first f.first) (new_option second ++ new_option third) s2 s3 s7 c.took
            (took_both (option_tokens second) _ (new_option second) (new_option third) s3 s4 s7 d.took
            (one_then (token (kind.Mark Semicolon) last) _ (new_option third) s4 s5 s7 e
            (then_one (token (kind.Mark RightParenthesis) close) (option_tokens third) (new_option third) s5 s6 s7 g.took h)))));
        first = subst (λ (names : List Binding). FirstFits depth names f.first) names c.fits;
        second = subst (λ (names : List Binding). OptionFits depth expression_level names second) names3 d.fits;
        third = subst (λ (names : List Binding). OptionFits depth expression_level names third) names5 g.fits;
      }))))))))

  pub for_sound : (state : State) → Gives (for_stmt stmt depth) (PartStood IsScope (suc depth) state) state
  unfolding for_stmt
  for_sound state =
      scope_sound IsScope _ (suc depth) state (gives_bind (clauses depth) _ _ _ state (clauses_sound state) (λ read s1 one.
      gives_bind (part stmt depth) _ _ _ s1 (part_stood s1) (λ body s2 two.
      gives_pure (For read.first read.second read.third body read.lines) (InScope IsScope (suc depth) state) s2
      (for_of state s1 s2 read body one two)))) where
        for_of : (state s1 s2 : State) (read : ForRead) (body : StmtTree) → ClausesStood state read s1 → PartStood AnyStmt depth s1 body s2
            → InScope IsScope (suc depth) state (For read.first read.second read.third body read.lines) s2
        for_of state s1 s2 read body one two =
            let ends : List ℕ = one.last ∷ one.close ∷ [] in
            let new : List Binding = new_first read.first ++ (new_option read.second ++ new_option read.third) in
            let word : Token = token (kind.Key keywords.For) one.word in
            let left : Token = token (kind.Mark LeftParenthesis) one.left in
            let clauses_are : List Token = clauses_tokens read.second read.third ends in
            let spelled : word ∷ left ∷ ((one.front ++ clauses_are) ++ stmt_tokens body) ≡
            word ∷ left ∷ (first_tokens read.first (one.own ++ ends) ++ (clauses_tokens read.second read.third (behind_first read.first (one.own ++ ends)) ++ stmt_tokens body)) =
            ap (λ (ts : List Token). word ∷ left ∷ ts) (append_assoc one.front clauses_are (stmt_tokens body)
            ∙ ap (λ (ts : List Token). ts ++ (clauses_are ++ stmt_tokens body)) (sym (one.tokens ends))
            ∙ ap (λ (ls : List ℕ). first_tokens read.first (one.own ++ ends) ++ (clauses_tokens read.second read.third ls ++ stmt_tokens body)) (sym (one.behind ends))) in
            let names : s1.names ≡ ((state.names ++ new_first read.first) ++ new_option read.second) ++ new_option read.third =
            one.took.scope ∙ sym (append_assoc state.names (new_first read.first) (new_option read.second ++ new_option read.third))
            ∙ sym (append_assoc (state.names ++ new_first read.first) (new_option read.second) (new_option read.third)) in
            subst (λ (ls : List ℕ). InScope IsScope (suc depth) state (For read.first read.second read.third body ls) s2) (sym one.lines) (record {
              new = new ++ [];
              took = subst (λ (ts : List Token). Took ts (new ++ []) state s2) spelled
                  (took_both (word ∷ left ∷ (one.front ++ clauses_are)) (stmt_tokens body) new [] state s1 s2 one.took two.took);
              fits = record {
                valid = record {
                  first = one.first.valid;
                  second = one.second.valid;
                  third = one.third.valid;
                  fourth = two.fits.valid;
                  own = let a = one.count in let b = length-append one.own ends in omega (arith, a, b);
                };
                stands = record {
                  first = one.first.stands;
                  second = one.second.stands;
                  third = one.third.stands;
                  body = subst (λ (names : List Binding). StmtStands names body) names two.fits.stands;
                };
                deep = let a = one.first.deep in let b = one.second.deep in let c = one.third.deep in let d = two.fits.deep in omega (arith, a, b, c, d);
              };
              closed = two.closed;
              quiet = refl;
            })

  -- ---- blocks (6.8.2)

  item_sound : (state : State) → Gives (item stmt depth) (ItemStood depth state) state
  unfolding item
  item_sound state =
      gives_if sees_decl (bind (decl depth) (λ d. λ s. Some (Declared d, s))) (bind stmt (λ t. λ s. Some (Statement t, s))) (ItemStood depth state) state
      (λ _. gives_bind (decl depth) _ _ _ state (decl_sound state) (λ d mid one.
      gives_pure (Declared d) (ItemStood depth state) mid (record { took = one.took; fits = record { valid = one.fits.valid; stands = one.fits.stands; deep = one.fits.deep } })))
      (λ _. gives_bind stmt _ _ _ state (stmt_sound state) (λ s mid one.
      gives_pure (Statement s) (ItemStood depth state) mid
      (record { took = one.stood.took; fits = record { valid = one.stood.fits.valid; stands = one.stood.fits.stands; deep = one.stood.fits.deep } })))

  abbrev IsItem : List ItemTree → List Binding → ItemTree → Type 0
  IsItem all names i = ItemFits depth names i

  -- a block whose scope is not left yet
  pub block_sound : (state : State) → Gives (block_from stmt depth) (PartStood IsBlock (suc depth) state) state
  unfolding block_from block_items
  block_sound state =
      scope_sound IsBlock _ (suc depth) state (gives_bind (mark LeftBrace) _ _ _ state (mark_gives LeftBrace state) (λ first s1 one.
      gives_bind (many_ahead sees_end (taking (item stmt depth) with_item) []) _ _ _ s1
      (many_ahead_sound IsItem item_tokens new_item with_item sees_end (item stmt depth)
      (λ all state _. gives_more (item stmt depth) (ItemStood depth state) (λ i after. Took (item_tokens i) (new_item i) state after × IsItem all state.names i) state
      (λ i after stood. (stood.took, stood.fits)) (item_sound state)) [] s1) (λ list s2 two.
      gives_bind (mark RightBrace) _ _ _ s2 (mark_gives RightBrace s2) (λ last s3 three.
      gives_pure (Block (items list) (first ∷ last ∷ [])) (InScope IsBlock (suc depth) state) s3
      (block_of depth state s1 s2 s3 first last list one two three))))) where
        block_of : (depth : ℕ) (state s1 s2 s3 : State) (first last : ℕ) (list : List ItemTree) → TookOne (token (kind.Mark LeftBrace) first) state s1
            → Items (λ all names i. ItemFits depth names i) item_tokens new_item with_item sees_end [] s1 list s2 → TookOne (token (kind.Mark RightBrace) last) s2 s3
            → InScope IsBlock (suc depth) state (Block (items list) (first ∷ last ∷ [])) s3
        block_of depth state s1 s2 s3 first last list one two three =
            let are : list ≡ two.items = two.taken ∙ all_taken two.items [] in
            let fit : ItemsFit depth s1.names two.items = items_fit depth two.items [] s1.names two.good in
            subst (λ (is : List ItemTree). InScope IsBlock (suc depth) state (Block (items is) (first ∷ last ∷ [])) s3) (sym are) (record {
              new = each_of new_item two.items;
              took = one_then (token (kind.Mark LeftBrace) first) _ (each_of new_item two.items) state s1 s3 one
                  (then_one (token (kind.Mark RightBrace) last) (items_tokens (items two.items)) (each_of new_item two.items) s1 s2 s3
                  (subst (λ (ts : List Token). Took ts (each_of new_item two.items) s1 s2) (sym (tokens_of_items two.items)) two.took) three);
              fits = record {
                valid = record { part = fit.valid; own = refl };
                stands = subst (λ (names : List Binding). ItemsStand names (items two.items)) one.same fit.stands;
                deep = let a = fit.deep in omega (arith, a);
              };
              closed = never_open;
              quiet = (refl, refl);
            })
