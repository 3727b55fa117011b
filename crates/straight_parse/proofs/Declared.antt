-- Declarations, in both directions.
use Rattle.std.proofs.Common.{◌≡◌, ℕ, suc, ◌-◌, ◌<◌, ◌≤◌, max, Bool, true, false, not, nat_lt, cond, Option, Some, None, List, [], ◌∷◌, ◌++◌, length, get_or, refl, sym, ap, ◌∙◌, subst, inl, inr, arith, append_assoc, append-nil, length-append}
use Rattle.std.proofs.lemmas.Bool.{cond-true, cond-false}
use Rattle.std.proofs.lemmas.Bool.Decides.{nat_tests}
use Rattle.cx_lex.specs.declared.token.Punct.TheVariants.{Semicolon, Equal}
use Rattle.cx_lex.specs.declared.token.Token.{Token}
use Rattle.cx_lex.specs.declared.token.TokenKind.TheVariants as kind
use Rattle.straight_parse.specs.declared.sight.Sight.{Sight}
use Rattle.straight_parse.specs.Continuations.{continuation_of, strength}
use Rattle.straight_parse.specs.Declarations.{init_declarator_tree, decl_tree, unmeasured, init, behind_declarator, init_declarator, declaration}
use Rattle.straight_parse.specs.Declarators.{MeasuredDeclarator, stops_functions, declarator}
use Rattle.straight_parse.specs.Exprs.{expr}
use Rattle.straight_parse.specs.Lists.{ListRead, list_read, listed_none, with_item, behind_commas}
use Rattle.straight_parse.specs.Reading.{State, bind}
use Rattle.straight_parse.specs.Sights.{sight, shows_mark, sees_mark, mark}
use Rattle.straight_parse.proofs.Commas.{CommaList, commas_sound, Follows, zipped, commas_reads, lines_of, items_of, trees_of, parts_of, deepest}
use Rattle.straight_parse.proofs.DeclaratorReads.{declarator_reads}
use Rattle.straight_parse.proofs.DeclaratorSound.{StandsNamed, declarator_sound}
use Rattle.straight_parse.proofs.ExprReads.{ahead, expr_reads, one_line, follows_commas}
use Rattle.straight_parse.proofs.ExprSound.{expr_sound}
use Rattle.straight_parse.proofs.Many.{Each}
use Rattle.straight_parse.proofs.Marks.{same_mark_refl, comma_continues, semicolon_continues, semicolon_no_comma, equal_no_opening, comma_no_opening, semicolon_no_opening, comma_no_equal, semicolon_no_equal}
use Rattle.straight_parse.proofs.Readers.{bind_some, bind_elim, same_answer, none_some, token, mark_front, mark_reads}
use Rattle.straight_tree.specs.Depth.{expr_depth, declarator_depth, init_depth, init_declarator_depth, init_declarators_depth}
use Rattle.straight_tree.specs.Tokens as tree
use Rattle.straight_tree.specs.Tokens.{expr_tokens, declarator_tokens, init_tokens, init_declarator_tokens, init_declarators_tokens, listed}
use Rattle.straight_tree.specs.Trees.{DeclaratorTree, InitialiserTree, ExprInitialiser, InitDeclaratorTree, SpecsTree, DeclTree}
use Rattle.straight_tree.specs.Valid.{IsValidInit, IsValidInitDeclarator, AreValidInitDeclarators, list_marks}

-- a declarator with its initialiser, and a depth that isn't asked for
abbrev pub Item : Type 0
Item = InitDeclaratorTree × ℕ

abbrev pub IsItem : ℕ → Item → Type 0
IsItem depth d = IsValidInitDeclarator d.0 × (init_declarator_depth d.0 ≤ depth)

items_tokens_are : (items : List Item) → parts_of init_declarator_tokens items ≡ init_declarators_tokens (trees_of items)
items_tokens_are [] = refl
items_tokens_are (i ∷ is) = ap (λ (ts : List (List Token)). init_declarator_tokens i.0 ∷ ts) (items_tokens_are is)

items_count : (items : List Item) → length (trees_of items) ≡ length items
items_count [] = refl
items_count (i ∷ is) = ap suc (items_count is)

items_valid : (depth : ℕ) (items : List Item) → Each (IsItem depth) items → AreValidInitDeclarators (trees_of items)
items_valid depth [] good = tt
items_valid depth (i ∷ is) good = (good.0.0, items_valid depth is good.1)

items_within : (depth : ℕ) (items : List Item) → Each (IsItem depth) items → init_declarators_depth (trees_of items) ≤ depth
items_within depth [] good = omega arith
items_within depth (i ∷ is) good = let a = good.0.1 in let b = items_within depth is good.1 in omega (arith, a, b)

-- ---- what was read stands in front

record StandsItem (depth : ℕ) (state : State) (d : Item) (after : State) : Type 0 where
  spelled : state ≡ init_declarator_tokens d.0 ++ after
  good : IsItem depth d

with_init : (a : List Token) (t : Token) (b : List Token) (s0 s1 s2 s3 : State) → s0 ≡ a ++ s1 → s1 ≡ t ∷ s2 → s2 ≡ b ++ s3 → s0 ≡ (a ++ t ∷ b) ++ s3
with_init a t b s0 s1 s2 s3 e f g = e ∙ ap (λ (s : State). a ++ s) (f ∙ ap (λ (s : State). t ∷ s) g) ∙ sym (append_assoc a (t ∷ b) s3)

init_sound : (depth : ℕ) (state : State) (left : MeasuredDeclarator) (mid : State) (d : InitDeclaratorTree) (after : State) → StandsNamed depth state left mid → left.1 < depth
    → init (depth - 1) left.0 mid ≡ Some (d, after) → StandsItem depth state (d, 0) after
unfolding init
init_sound depth state left mid d after stands shallow h =
    bind_elim _ (mark Equal) _ mid d after h (λ line s1 e1 k1.
    bind_elim _ (expr (depth - 1) 2) _ s1 d after k1 (λ e s2 e2 k2.
    let inside = expr_sound (depth - 1) 2 s1 e s2 (omega arith) e2 in
    same_answer (λ d after. StandsItem depth state (d, 0) after) (init_declarator_tree left.0 (Some (ExprInitialiser e.0)) (line ∷ [])) s2 d after k2
    (record {
      spelled = with_init (declarator_tokens left.0) (token (kind.Mark Equal) line) (expr_tokens e.0) state mid s1 s2 stands.spelled (mark_front Equal mid line s1 e1) inside.spelled;
      good = (
        (stands.named, ((inside.valid, inside.level), refl)),
        let a = stands.deep in let b = inside.deep in let le : e.1 ≤ depth - 1 = inside.within in omega (arith, a, b),
      );
    })))

behind_turn : (depth : ℕ) (state : State) (left : MeasuredDeclarator) (mid : State) (d : Item) (after : State) (test : Bool) → StandsNamed depth state left mid → left.1 < depth
    → cond {A = Option (Item × State)} test (bind (init (depth - 1) left.0) (λ d. λ s. Some (unmeasured d, s)) mid) (Some (unmeasured (init_declarator_tree left.0 None []), mid)) ≡ Some (d, after)
    → StandsItem depth state d after
behind_turn depth state left mid d after true stands shallow h =
    bind_elim _ (init (depth - 1) left.0) _ mid d after h (λ read s1 e k.
    same_answer (StandsItem depth state) (unmeasured read) s1 d after k (init_sound depth state left mid read s1 stands shallow e))
behind_turn depth state left mid d after false stands shallow h =
    same_answer (StandsItem depth state) (unmeasured (init_declarator_tree left.0 None [])) mid d after h (record {
      spelled = stands.spelled ∙ ap (λ (ts : List Token). ts ++ mid) (sym (append-nil (declarator_tokens left.0)));
      good = ((stands.named, refl), let a = stands.deep in omega (arith, a));
    })

behind_by : (depth : ℕ) (state : State) (left : MeasuredDeclarator) (mid : State) (d : Item) (after : State) (test : Bool) → nat_lt left.1 depth ≡ test → StandsNamed depth state left mid
    → cond {A = Option (Item × State)} test (cond {A = Option (Item × State)} (sees_mark Equal mid) (bind (init (depth - 1) left.0) (λ d. λ s. Some (unmeasured d, s)) mid)
    (Some (unmeasured (init_declarator_tree left.0 None []), mid))) None ≡ Some (d, after)
    → StandsItem depth state d after
behind_by depth state left mid d after true shallow stands h = let le : left.1 < depth = grind (arith, nat_tests) in behind_turn depth state left mid d after (sees_mark Equal mid) stands le h
behind_by depth state left mid d after false shallow stands h = none_some _ _ h

behind_sound : (depth : ℕ) (state : State) (left : MeasuredDeclarator) (mid : State) (d : Item) (after : State) → StandsNamed depth state left mid
    → behind_declarator depth left mid ≡ Some (d, after) → StandsItem depth state d after
unfolding behind_declarator
behind_sound depth state left mid d after stands h = behind_by depth state left mid d after (nat_lt left.1 depth) refl stands h

item_sound : (depth : ℕ) (state : State) (d : Item) (after : State) → init_declarator depth state ≡ Some (d, after) → (state ≡ init_declarator_tokens d.0 ++ after) × IsItem depth d
unfolding init_declarator
item_sound depth state d after h =
    bind_elim _ (declarator depth) _ state d after h (λ left mid e k.
    let stands = behind_sound depth state left mid d after (declarator_sound depth state left mid e) k in
    (stands.spelled, stands.good))

-- a declaration behind its specifiers
pub record StandsDecl (depth : ℕ) (specs : SpecsTree) (state : State) (d : DeclTree) (after : State) : Type 0 where
  pub specs_are : d.specs ≡ specs
  pub spelled : state ≡ listed Semicolon (init_declarators_tokens d.list) d.lines ++ after
  pub valid : AreValidInitDeclarators d.list
  pub count : length d.lines ≡ list_marks (length d.list)
  pub within : init_declarators_depth d.list ≤ depth

decl_stands : (depth : ℕ) (specs : SpecsTree) (state : State) (list : ListRead InitDeclaratorTree) (mid : State) (last : ℕ) (after : State)
    → CommaList (IsItem depth) init_declarator_tokens [] state list mid → mid ≡ token (kind.Mark Semicolon) last ∷ after
    → StandsDecl depth specs state (decl_tree specs list.list (list.lines ++ last ∷ [])) after
decl_stands depth specs state list mid last after read end =
    let items = read.items in
    let a = items_count items in
    let b = read.count in
    let P : ListRead InitDeclaratorTree → Type 0 = λ list. StandsDecl depth specs state (decl_tree specs list.list (list.lines ++ last ∷ [])) after in
    subst P (sym read.made) (record {
      specs_are = refl;
      spelled = read.spelled Semicolon last after end ∙ ap (λ (ts : List (List Token)). listed Semicolon ts (read.marks ++ last ∷ []) ++ after) (items_tokens_are items);
      valid = items_valid depth items read.good;
      count = omega (arith, a, b, length-append read.marks (last ∷ []));
      within = items_within depth items read.good;
    })

pub declaration_sound : (depth : ℕ) (specs : SpecsTree) (state : State) (left : MeasuredDeclarator) (mid : State) (d : DeclTree) (after : State) → StandsNamed depth state left mid
    → declaration depth specs left mid ≡ Some (d, after) → StandsDecl depth specs state d after
unfolding declaration
declaration_sound depth specs state left mid d after stands h =
    bind_elim _ (behind_declarator depth left) _ mid d after h (λ first s1 e1 k1.
    bind_elim _ (behind_commas (init_declarator depth) (with_item (listed_none []) first)) _ s1 d after k1 (λ list s2 e2 k2.
    bind_elim _ (mark Semicolon) _ s2 d after k2 (λ last s3 e3 k3.
    let one = behind_sound depth state left mid first s1 stands e1 in
    same_answer (StandsDecl depth specs state) (decl_tree specs list.list (list.lines ++ last ∷ [])) s3 d after k3
    (decl_stands depth specs state list s2 last s3
    (commas_sound (IsItem depth) init_declarator_tokens (init_declarator depth) (λ state d after e. item_sound depth state d after e) [] state s1 first list s2 one.spelled one.good e2)
    (mark_front Semicolon s2 last s3 e3)))))

-- ---- what stands in front is read

-- what follows a declarator with its initialiser
abbrev pub Ends : State → Type 0
Ends = Follows Semicolon

ends_weak : (state : State) → Ends state → ahead state ≡ 0
ends_weak state (inl comma) = ap (λ (s : Sight). strength (continuation_of s)) comma ∙ ap strength comma_continues
ends_weak state (inr last) = ap (λ (s : Sight). strength (continuation_of s)) last ∙ ap strength semicolon_continues

ends_no_equal : (state : State) → Ends state → sees_mark Equal state ≡ false
ends_no_equal state (inl comma) = ap (shows_mark Equal) comma ∙ comma_no_equal
ends_no_equal state (inr last) = ap (shows_mark Equal) last ∙ semicolon_no_equal

ends_no_function : (state : State) → Ends state → stops_functions (sight state) ≡ true
ends_no_function state (inl comma) = ap stops_functions comma ∙ ap not comma_no_opening
ends_no_function state (inr last) = ap stops_functions last ∙ ap not semicolon_no_opening

pub init_no_function : (lines : List ℕ) (i : Option InitialiserTree) (rest : State) → Ends rest → stops_functions (sight (init_tokens lines i ++ rest)) ≡ true
init_no_function lines None rest ends = ends_no_function rest ends
init_no_function lines (Some i) rest ends = ap not equal_no_opening

no_line : (lines : List ℕ) → length lines ≡ 0 → [] ≡ lines
no_line [] e = refl
no_line (l ∷ lines) e = absurd (omega arith)

init_reads : (depth : ℕ) (left : DeclaratorTree) (i : Option InitialiserTree) (lines : List ℕ) (rest : State) → IsValidInit lines i → max (declarator_depth left) (init_depth i) < depth → Ends rest
    → behind_declarator depth (left, declarator_depth left) (init_tokens lines i ++ rest) ≡ Some ((init_declarator_tree left i lines, 0), rest)
unfolding behind_declarator init
init_reads depth left None lines rest v deep ends =
    let d : nat_lt (declarator_depth left) depth ≡ true = let le : declarator_depth left < depth = omega arith in grind (arith, nat_tests) in
    cond-true (nat_lt (declarator_depth left) depth) _ _ d
    ∙ cond-false (sees_mark Equal rest) _ _ (ends_no_equal rest ends)
    ∙ ap (λ (ls : List ℕ). Some ((init_declarator_tree left None ls, 0), rest)) (no_line lines v)
init_reads depth left (Some (ExprInitialiser e)) lines rest v deep ends =
    let line = get_or lines 0 0 in
    let inside : State = expr_tokens e ++ rest in
    let opened : State = token (kind.Mark Equal) line ∷ inside in
    let d : nat_lt (declarator_depth left) depth ≡ true = let le : declarator_depth left < depth = omega arith in grind (arith, nat_tests) in
    let weak = ends_weak rest ends in
    cond-true (nat_lt (declarator_depth left) depth) _ _ d
    ∙ cond-true (sees_mark Equal opened) _ _ (same_mark_refl Equal)
    ∙ bind_some (init (depth - 1) left) (λ d. λ s. Some (unmeasured d, s)) opened (init_declarator_tree left (Some (ExprInitialiser e)) (line ∷ [])) rest
    (bind_some (mark Equal) _ opened line inside (mark_reads Equal line inside)
    ∙ bind_some (expr (depth - 1) 2) _ inside (e, expr_depth e) rest (expr_reads (depth - 1) e 2 rest v.0.0 (omega arith) (omega arith) (omega arith) v.0.1 (omega arith)))
    ∙ ap (λ (ls : List ℕ). Some ((init_declarator_tree left (Some (ExprInitialiser e)) ls, 0), rest)) (one_line lines v.1)

item_reads : (depth : ℕ) (x : Item) (behind : State) → IsItem depth x × (x.1 ≡ 0) → Ends behind → init_declarator depth (init_declarator_tokens x.0 ++ behind) ≡ Some (x, behind)
unfolding init_declarator
item_reads depth x behind good ends =
    let d = x.0 in
    let inside : State = init_tokens d.lines d.init ++ behind in
    let deep = good.0.1 in
    ap (λ (s : State). init_declarator depth s) (append_assoc (declarator_tokens d.declarator) (init_tokens d.lines d.init) behind)
    ∙ bind_some (declarator depth) _ (declarator_tokens d.declarator ++ inside) (d.declarator, declarator_depth d.declarator) inside
    (declarator_reads depth d.declarator inside good.0.0.0 (omega (arith, deep)) (init_no_function d.lines d.init behind ends))
    ∙ init_reads depth d.declarator d.init d.lines behind good.0.0.1 (omega (arith, deep)) ends
    ∙ ap (λ (n : ℕ). Some ((d, n), behind)) (sym good.1)

abbrev zero_list : List InitDeclaratorTree → List Item
zero_list [] = []
zero_list (d ∷ ds) = (d, 0) ∷ zero_list ds

zero_tokens : (ds : List InitDeclaratorTree) → init_declarators_tokens ds ≡ parts_of init_declarator_tokens (zero_list ds)
zero_tokens [] = refl
zero_tokens (d ∷ ds) = ap (λ (ts : List (List Token)). init_declarator_tokens d ∷ ts) (zero_tokens ds)

zero_trees : (ds : List InitDeclaratorTree) → trees_of (zero_list ds) ≡ ds
zero_trees [] = refl
zero_trees (d ∷ ds) = ap (λ (ts : List InitDeclaratorTree). d ∷ ts) (zero_trees ds)

zero_count : (ds : List InitDeclaratorTree) → length (zero_list ds) ≡ length ds
zero_count [] = refl
zero_count (d ∷ ds) = ap suc (zero_count ds)

zero_good : (depth : ℕ) (ds : List InitDeclaratorTree) → AreValidInitDeclarators ds → init_declarators_depth ds ≤ depth → Each (λ x. IsItem depth x × (x.1 ≡ 0)) (zero_list ds)
zero_good depth [] valid within = tt
zero_good depth (d ∷ ds) valid within = (((valid.0, omega (arith, within)), refl), zero_good depth ds valid.1 (omega (arith, within)))

-- the tokens of a declaration from behind the first declarator on
abbrev pub behind_first : InitDeclaratorTree → List InitDeclaratorTree → List ℕ → State → State
behind_first d ds lines rest = init_tokens d.lines d.init ++ (tree.behind_commas Semicolon (init_declarators_tokens ds) lines ++ rest)

pub first_ends : (ds : List InitDeclaratorTree) (lines : List ℕ) (rest : State) → Ends (tree.behind_commas Semicolon (init_declarators_tokens ds) lines ++ rest)
first_ends ds lines rest = follows_commas Semicolon (init_declarators_tokens ds) lines rest

pub declaration_reads : (depth : ℕ) (specs : SpecsTree) (d : InitDeclaratorTree) (ds : List InitDeclaratorTree) (lines : List ℕ) (rest : State) → AreValidInitDeclarators (d ∷ ds)
    → length lines ≡ list_marks (length (d ∷ ds)) → init_declarators_depth (d ∷ ds) ≤ depth
    → declaration depth specs (d.declarator, declarator_depth d.declarator) (behind_first d ds lines rest) ≡ Some (decl_tree specs (d ∷ ds) lines, rest)
unfolding declaration
declaration_reads depth specs d ds lines rest valid count within =
    let zip = zipped (zero_list ds) lines (let a = zero_count ds in omega (arith, a, count)) in
    let nexts = zip.nexts in
    let last = zip.last in
    let Q : Item → Type 0 = λ x. IsItem depth x × (x.1 ≡ 0) in
    let good_nexts : Each Q (items_of nexts) = subst (λ (is : List Item). Each Q is) (sym zip.items_is) (zero_good depth ds valid.1 (omega (arith, within))) in
    let old : State = tree.behind_commas Semicolon (init_declarators_tokens ds) lines ++ rest in
    let tail : State = tree.behind_commas Semicolon (parts_of init_declarator_tokens (items_of nexts)) (lines_of nexts ++ last ∷ []) ++ rest in
    let tail_is : old ≡ tail =
    ap (λ (ts : List (List Token)). tree.behind_commas Semicolon ts lines ++ rest) (zero_tokens ds)
    ∙ ap (λ (is : List Item). tree.behind_commas Semicolon (parts_of init_declarator_tokens is) lines ++ rest) (sym zip.items_is)
    ∙ ap (λ (ls : List ℕ). tree.behind_commas Semicolon (parts_of init_declarator_tokens (items_of nexts)) ls ++ rest) (sym zip.lines_is) in
    let all = with_item (listed_none []) (d, 0) in
    let list = list_read (d ∷ trees_of (items_of nexts)) (max (max 0 0) (deepest (items_of nexts))) (lines_of nexts) in
    let closing : State = token (kind.Mark Semicolon) last ∷ rest in
    let trees : trees_of (items_of nexts) ≡ ds = ap (λ (is : List Item). trees_of is) zip.items_is ∙ zero_trees ds in
    bind_some (behind_declarator depth (d.declarator, declarator_depth d.declarator)) _ (behind_first d ds lines rest) (d, 0) old
    (init_reads depth d.declarator d.init d.lines old valid.0.1 (omega (arith, within)) (first_ends ds lines rest))
    ∙ bind_some (behind_commas (init_declarator depth) all) _ old list closing
    (ap (λ (s : State). behind_commas (init_declarator depth) all s) tail_is
    ∙ commas_reads Q init_declarator_tokens (init_declarator depth) Semicolon semicolon_no_comma (λ x behind good ends. item_reads depth x behind good ends) nexts last all rest good_nexts)
    ∙ bind_some (mark Semicolon) _ closing last rest (mark_reads Semicolon last rest)
    ∙ (λ i. Some (decl_tree specs (d ∷ trees i) (zip.lines_is i), rest))
