-- Lists that were read stood in front: items one after the other, with commas between them, and in braces.
use Rattle.std.proofs.Common.{◌≡◌, ℕ, suc, ◌+◌, ◌-◌, ◌<◌, Bool, true, false, List, [], ◌∷◌, ◌++◌, length, map, fold, drop, refl, sym, ap, ◌∙◌, subst, arith, append_assoc, length-append}
use Rattle.std.proofs.lemmas.List.{append-nil}
use Rattle.std.specs.Prelude.{⊤}
use Rattle.cx_cursor.specs.Lists.{ListRead, list_read, many_ahead, taking, with_next, next_item, comma_item}
use Rattle.cx_cursor.specs.Reading.{State, at, Reader, bind}
use Rattle.cx_cursor.specs.Sights.{sees_mark}
use Rattle.cx_cursor.proofs.Readers.{Gives, gives_bind, Took, token}
use Rattle.cx_expr.specs.Specifiers.{BracedRead, braced_read, closing_brace, items_in, braced, no_further}
use Rattle.cx_lex.specs.declared.token.Punct.TheVariants as punct
use Rattle.cx_lex.specs.declared.token.Token.{Token}
use Rattle.cx_lex.specs.declared.token.TokenKind.{TokenKind}
use Rattle.cx_lex.specs.declared.token.TokenKind.TheVariants as kind
use Rattle.cx_parse.proofs.Lists.{each_of, Each, Items, many_ahead_sound, comma_tokens, comma_new, lines_of, items_of, taken_in, behind_commas_is, comma_item_sound}
use Rattle.cx_parse.proofs.SoundRules.{on_mark, on_test, given, first, both}
use Rattle.cx_parse.proofs.Stood.{Stood}
use Rattle.cx_tree.specs.Names.{Binding}
use Rattle.cx_tree.specs.Tokens.{listed, owns, brace}
use Rattle.cx_tree.specs.Tokens as tree
use Rattle.cx_tree.specs.Valid.{one_if}

-- each item fits where it stands
abbrev pub Fine : {A : Type 0} → (A → List Binding) → (List Binding → A → Type 0) → List Binding → List A → Type 0
Fine new Fit names [] = ⊤
Fine new Fit names (x ∷ xs) = Fit names x × Fine new Fit (names ++ new x) xs

-- ---- items with commas between them

-- items, the lines of the commas between them, and the tokens of both
pub record ListOf {A : Type 0} (tokens : A → List Token) (new : A → List Binding) (Fit : List Binding → A → Type 0) (names : List Binding)
    (items : List A) (marks : List ℕ) (front : List Token) : Type 0 where
  pub count : length marks ≡ length items - 1
  pub fine : Fine new Fit names items
  pub text : (closing : List TokenKind) (ends : List ℕ) → listed closing (map tokens items) (marks ++ ends) ≡ front ++ owns closing ends

-- what was read of a list
pub record Listing {A : Type 0} (tokens : A → List Token) (new : A → List Binding) (Fit : List Binding → A → Type 0) (lines : List ℕ) (state : State)
    (read : ListRead A) (after : State) : Type 0 where
  pub items : List A
  pub marks : List ℕ
  pub front : List Token
  pub is : read ≡ list_read items (lines ++ marks)
  pub of : ListOf tokens new Fit state.names items marks front
  pub took : Took front (each_of new items) state after

pub no_items : {A : Type 0} (tokens : A → List Token) (new : A → List Binding) (Fit : List Binding → A → Type 0) (lines : List ℕ) (state : State)
    → Listing tokens new Fit lines state (list_read [] lines) state
no_items tokens new Fit lines state = record {
  items = [];
  marks = [];
  front = [];
  is = ap (λ (ls : List ℕ). list_read [] ls) (sym (append-nil lines));
  of = record { count = omega arith; fine = tt; text = λ closing ends. refl };
  took = record { spelled = refl; scope = sym (append-nil state.names) };
}

-- one item or more, behind which the list ends
pub record Commas {A : Type 0} (tokens : A → List Token) (new : A → List Binding) (Fit : List Binding → A → Type 0) (stops : ListRead A → State → Bool) (lines : List ℕ) (state : State)
    (read : ListRead A) (after : State) : Type 0 where
  pub list : Listing tokens new Fit lines state read after
  pub some : 0 < length list.items
  pub stopped : stops read after ≡ true

fine_next : {A : Type 0} (new : A → List Binding) (Fit : List Binding → A → Type 0) (names : List Binding) (all : ListRead A) (nexts : List (ℕ × A))
    → Each (λ (l : ListRead A) (ns : List Binding) (n : ℕ × A). Fit ns n.1) (comma_new new) with_next all names nexts → Fine new Fit names (items_of nexts)
fine_next new Fit names all [] good = tt
fine_next new Fit names all (n ∷ nexts) good = (good.0, fine_next new Fit (names ++ new n.1) (with_next all n) nexts good.1)

new_next : {A : Type 0} (new : A → List Binding) (nexts : List (ℕ × A)) → each_of (comma_new new) nexts ≡ each_of new (items_of nexts)
new_next new [] = refl
new_next new (n ∷ nexts) = ap (λ (bs : List Binding). new n.1 ++ bs) (new_next new nexts)

as_many : {A : Type 0} (nexts : List (ℕ × A)) → length (lines_of nexts) ≡ length (items_of nexts)
as_many [] = refl
as_many (n ∷ nexts) = ap suc (as_many nexts)

module _ {A : Type 0} (item : Reader A) (tokens : A → List Token) (new : A → List Binding) (Fit : List Binding → A → Type 0)
    (sound : (state : State) → Gives item (λ a after. Stood (tokens a) (new a) (Fit state.names a) state after) state) where
  -- the items behind the first
  behind_first : (stops : ListRead A → State → Bool) (lines : List ℕ) (state mid : State) (one : A) → Stood (tokens one) (new one) (Fit state.names one) state mid
      → Gives (many_ahead stops (next_item item) (list_read (one ∷ []) lines)) (Commas tokens new Fit stops lines state) mid
  behind_first stops lines state mid one stood read after e =
      let found : Items (λ (l : ListRead A) (ns : List Binding) (n : ℕ × A). Fit ns n.1) (comma_tokens tokens) (comma_new new) with_next stops (list_read (one ∷ []) lines) mid read after =
      many_ahead_sound (λ (l : ListRead A) (ns : List Binding) (n : ℕ × A). Fit ns n.1) (comma_tokens tokens) (comma_new new) with_next stops (comma_item item)
      (λ all s go. comma_item_sound item tokens new Fit (λ s a after e. let one = sound s a after e in (one.took, one.fits)) s)
      (list_read (one ∷ []) lines) mid read after e in
      let nexts = found.items in
      record {
        list = record {
          items = one ∷ items_of nexts;
          marks = lines_of nexts;
          front = tokens one ++ each_of (comma_tokens tokens) nexts;
          is = found.taken ∙ taken_in nexts (one ∷ []) lines;
          of = record {
            count = let many = as_many nexts in omega (arith, many);
            fine = (
              stood.fits,
              fine_next new Fit (state.names ++ new one) (list_read (one ∷ []) lines) nexts
                  (subst (λ (ns : List Binding). Each (λ (l : ListRead A) (ns : List Binding) (n : ℕ × A). Fit ns n.1) (comma_new new) with_next (list_read (one ∷ []) lines) ns nexts) stood.took.scope found.good),
            );
            text = λ closing ends. ap (λ (ts : List Token). tokens one ++ ts) (behind_commas_is tokens closing nexts ends)
                ∙ sym (append_assoc (tokens one) (each_of (comma_tokens tokens) nexts) (owns closing ends));
          };
          took = record {
            spelled = both (tokens one) (each_of (comma_tokens tokens) nexts) after.tokens stood.took.spelled found.took.spelled;
            scope = found.took.scope ∙ ap (λ (bs : List Binding). bs ++ each_of (comma_new new) nexts) stood.took.scope
                ∙ append_assoc state.names (new one) (each_of (comma_new new) nexts) ∙ ap (λ (bs : List Binding). state.names ++ (new one ++ bs)) (new_next new nexts);
          };
        };
        some = omega arith;
        stopped = found.stopped;
      }

  pub commas_sound : (stops : ListRead A → State → Bool) (lines : List ℕ) (state : State)
      → Gives (bind item (λ one. many_ahead stops (next_item item) (list_read (one ∷ []) lines))) (Commas tokens new Fit stops lines state) state
  commas_sound stops lines state =
      gives_bind item _ (λ a after. Stood (tokens a) (new a) (Fit state.names a) state after) _ state (sound state) (λ one mid stood. behind_first stops lines state mid one stood)

-- what is read behind a list
pub on_listing : {A B : Type 0} {ts : List Token} {names : List Binding} (reader : Reader (ListRead A)) (go : ListRead A → Reader B) (Q : B → State → Type 0)
    (tokens : A → List Token) (new : A → List Binding) (Fit : List Binding → A → Type 0) (lines : List ℕ)
    → Gives reader (Listing tokens new Fit lines (at ts names)) (at ts names)
    → ((items : List A) (marks : List ℕ) (front rest : List Token) → ListOf tokens new Fit names items marks front → ts ≡ front ++ rest
    → Gives (go (list_read items (lines ++ marks))) Q (at rest (names ++ each_of new items)))
    → Gives (bind reader go) Q (at ts names)
on_listing {A} {B} {ts} {names} reader go Q tokens new Fit lines listing next =
    gives_bind reader go (Listing tokens new Fit lines (at ts names)) Q (at ts names) listing (λ read mid l.
    subst (λ (r : ListRead A). Gives (go r) Q mid) (sym l.is)
    (subst (λ (ns : List Binding). Gives (go (list_read l.items (lines ++ l.marks))) Q (at mid.tokens ns)) (sym l.took.scope)
    (next l.items l.marks l.front mid.tokens l.of l.took.spelled)))

pub on_commas : {A B : Type 0} {ts : List Token} {names : List Binding} (reader : Reader (ListRead A)) (go : ListRead A → Reader B) (Q : B → State → Type 0)
    (tokens : A → List Token) (new : A → List Binding) (Fit : List Binding → A → Type 0) (stops : ListRead A → State → Bool) (lines : List ℕ)
    → Gives reader (Commas tokens new Fit stops lines (at ts names)) (at ts names)
    → ((items : List A) (marks : List ℕ) (front rest : List Token) → ListOf tokens new Fit names items marks front → 0 < length items → ts ≡ front ++ rest
    → Gives (go (list_read items (lines ++ marks))) Q (at rest (names ++ each_of new items)))
    → Gives (bind reader go) Q (at ts names)
on_commas {A} {B} {ts} {names} reader go Q tokens new Fit stops lines commas next =
    gives_bind reader go (Commas tokens new Fit stops lines (at ts names)) Q (at ts names) commas (λ read mid c.
    let l = c.list in
    subst (λ (r : ListRead A). Gives (go r) Q mid) (sym l.is)
    (subst (λ (ns : List Binding). Gives (go (list_read l.items (lines ++ l.marks))) Q (at mid.tokens ns)) (sym l.took.scope)
    (next l.items l.marks l.front mid.tokens l.of c.some l.took.spelled)))

-- the text of a list with its end
pub listed_ahead : {r1 r2 : List Token} (closing : List TokenKind) (parts whole : List (List Token)) (lines ends : List ℕ) (front r3 : List Token) → parts ≡ whole
    → listed closing whole lines ≡ front ++ owns closing ends → r1 ≡ front ++ r2 → r2 ≡ owns closing ends ++ r3 → r1 ≡ listed closing parts lines ++ r3
listed_ahead closing parts whole lines ends front r3 same text e f =
    both front (owns closing ends) r3 e f ∙ ap (λ (ts : List Token). ts ++ r3) (sym text) ∙ ap (λ (ps : List (List Token)). listed closing ps lines ++ r3) (sym same)

-- ---- lists in braces

-- what was read of a list in braces, with its lines behind those given
pub record Braced {A : Type 0} (tokens : A → List Token) (new : A → List Binding) (Fit : List Binding → A → Type 0) (lines : List ℕ) (state : State)
    (read : BracedRead A) (after : State) : Type 0 where
  pub own : List ℕ
  pub lines_are : read.marks ≡ lines ++ own
  pub count : length own ≡ (length read.items - 1) + one_if read.last_comma + 2
  pub some : 0 < length read.items
  pub fine : Fine new Fit state.names read.items
  pub took : Took (tree.mark own 0 punct.LeftBrace ∷ listed (brace read.last_comma) (map tokens read.items) (drop 1 own)) (each_of new read.items) state after

module _ {A : Type 0} (item : Reader A) (tokens : A → List Token) (new : A → List Binding) (Fit : List Binding → A → Type 0)
    (sound : (state : State) → Gives item (λ a after. Stood (tokens a) (new a) (Fit state.names a) state after) state) where
  in_braces : (lines : List ℕ) (ts r1 rest : List Token) (names : List Binding) (line : ℕ) (items : List A) (marks ends : List ℕ) (front : List Token) (comma : Bool)
      → ts ≡ token (kind.Mark punct.LeftBrace) line ∷ r1 → ListOf tokens new Fit names items marks front → 0 < length items → length ends ≡ one_if comma + 1
      → r1 ≡ front ++ (owns (brace comma) ends ++ rest)
      → Braced tokens new Fit lines (at ts names) (braced_read items comma (((lines ++ line ∷ []) ++ marks) ++ ends)) (at rest (names ++ each_of new items))
  in_braces lines ts r1 rest names line items marks ends front comma e1 of some few e2 = record {
    own = line ∷ (marks ++ ends);
    lines_are = append_assoc (lines ++ line ∷ []) marks ends ∙ append_assoc lines (line ∷ []) (marks ++ ends);
    count = let many = of.count in let sum = length-append marks ends in omega (arith, many, sum, few);
    some = some;
    fine = of.fine;
    took = record {
      spelled = first e1 (e2 ∙ sym (append_assoc front (owns (brace comma) ends) rest) ∙ ap (λ (ts : List Token). ts ++ rest) (sym (of.text (brace comma) ends)));
      scope = refl;
    };
  }

  -- a brace, and the items behind it
  record Opened (lines : List ℕ) (ts : List Token) (names : List Binding) (read : ListRead A) (after : State) : Type 0 where
    line : ℕ
    behind : List Token
    ahead : ts ≡ token (kind.Mark punct.LeftBrace) line ∷ behind
    commas : Commas tokens new Fit no_further (lines ++ line ∷ []) (at behind names) read after

  opened : (lines : List ℕ) (ts : List Token) (names : List Binding) → Gives (items_in item lines) (Opened lines ts names) (at ts names)
  unfolding items_in
  opened lines ts names =
      on_mark punct.LeftBrace _ _ (λ line r1 e1. λ read after e. record {
        line = line;
        behind = r1;
        ahead = e1;
        commas = commas_sound item tokens new Fit sound no_further (lines ++ line ∷ []) (at r1 names) read after e;
      })

  closes : (lines : List ℕ) (ts r1 rest : List Token) (names : List Binding) (line : ℕ) (items : List A) (marks : List ℕ) (front : List Token)
      → ts ≡ token (kind.Mark punct.LeftBrace) line ∷ r1 → ListOf tokens new Fit names items marks front → 0 < length items → r1 ≡ front ++ rest
      → Gives (closing_brace (list_read items ((lines ++ line ∷ []) ++ marks))) (Braced tokens new Fit lines (at ts names)) (at rest (names ++ each_of new items))
  unfolding closing_brace
  closes lines ts r1 rest names line items marks front e1 of some e2 =
      on_test (sees_mark punct.Comma (at rest (names ++ each_of new items))) _
      (λ _. on_mark punct.Comma _ _ (λ comma r3 e3. on_mark punct.RightBrace _ _ (λ last r4 e4.
      given _ (in_braces lines ts r1 r4 names line items marks (comma ∷ last ∷ []) front true e1 of some (omega arith) (e2 ∙ ap (λ (ts : List Token). front ++ ts) (first e3 e4))))))
      (λ _. on_mark punct.RightBrace _ _ (λ last r3 e3.
      given _ (in_braces lines ts r1 r3 names line items marks (last ∷ []) front false e1 of some (omega arith) (e2 ∙ ap (λ (ts : List Token). front ++ ts) e3))))

  pub braced_sound : (lines : List ℕ) (ts : List Token) (names : List Binding) → Gives (braced item lines) (Braced tokens new Fit lines (at ts names)) (at ts names)
  unfolding braced
  braced_sound lines ts names =
      gives_bind (items_in item lines) (λ all. closing_brace all) (Opened lines ts names) _ (at ts names) (opened lines ts names) (λ read mid o.
      let c = o.commas in
      let l = c.list in
      subst (λ (r : ListRead A). Gives (closing_brace r) (Braced tokens new Fit lines (at ts names)) mid) (sym l.is)
      (subst (λ (ns : List Binding). Gives (closing_brace (list_read l.items ((lines ++ o.line ∷ []) ++ l.marks))) (Braced tokens new Fit lines (at ts names)) (at mid.tokens ns)) (sym l.took.scope)
      (closes lines ts o.behind mid.tokens names o.line l.items l.marks l.front o.ahead l.of c.some l.took.spelled)))

-- ---- items one after the other

abbrev pub appended : {A : Type 0} → List A → A → List A
appended all next = all ++ next ∷ []

pub fold_appended : {A : Type 0} (items all : List A) → fold appended all items ≡ all ++ items
fold_appended [] all = sym (append-nil all)
fold_appended (x ∷ items) all = fold_appended items (all ++ x ∷ []) ∙ append_assoc all (x ∷ []) items

fine_each : {A : Type 0} (new : A → List Binding) (Fit : List Binding → A → Type 0) (names : List Binding) (all items : List A)
    → Each (λ (l : List A) (ns : List Binding) (a : A). Fit ns a) new appended all names items → Fine new Fit names items
fine_each new Fit names all [] good = tt
fine_each new Fit names all (x ∷ items) good = (good.0, fine_each new Fit (names ++ new x) (all ++ x ∷ []) items good.1)

-- what is read behind one item or more
pub on_several : {A B : Type 0} {ts : List Token} {names : List Binding} (item : Reader A) (tokens : A → List Token) (new : A → List Binding) (Fit : List Binding → A → Type 0)
    → ((state : State) → Gives item (λ a after. Stood (tokens a) (new a) (Fit state.names a) state after) state)
    → (stops : List A → State → Bool) (go : List A → Reader B) (Q : B → State → Type 0)
    → ((items : List A) (rest : List Token) → Fine new Fit names items → 0 < length items → ts ≡ each_of tokens items ++ rest
    → stops items (at rest (names ++ each_of new items)) ≡ true → Gives (go items) Q (at rest (names ++ each_of new items)))
    → Gives (bind (taking item appended []) (λ one. bind (many_ahead stops (taking item appended) one) go)) Q (at ts names)
unfolding taking
on_several {A} {B} {ts} {names} item tokens new Fit sound stops go Q next =
    let P : List A → List Binding → A → Type 0 = λ (l : List A) (ns : List Binding) (a : A). Fit ns a in
    let state : State = at ts names in
    gives_bind (taking item appended []) _ (λ l after. (x : A) × (l ≡ x ∷ []) × Stood (tokens x) (new x) (Fit names x) state after) Q state
    (gives_bind item _ (λ a after. Stood (tokens a) (new a) (Fit names a) state after) _ state (sound state) (λ a mid one. given _ (a, refl, one)))
    (λ l mid one.
    let x = one.0 in
    let front = one.2 in
    subst (λ (l : List A). Gives (bind (many_ahead stops (taking item appended) l) go) Q mid) (sym one.1)
    (gives_bind (many_ahead stops (taking item appended) (x ∷ [])) go (Items P tokens new appended stops (x ∷ []) mid) Q mid
    (many_ahead_sound P tokens new appended stops item (λ all s go. λ a after e. let f = sound s a after e in (f.took, f.fits)) (x ∷ []) mid)
    (λ made behind found.
    let items = found.items in
    let made_is : made ≡ x ∷ items = found.taken ∙ fold_appended items (x ∷ []) in
    let names_are : behind.names ≡ names ++ (new x ++ each_of new items) =
    found.took.scope ∙ ap (λ (bs : List Binding). bs ++ each_of new items) front.took.scope ∙ append_assoc names (new x) (each_of new items) in
    let good : Fine new Fit (names ++ new x) items =
    fine_each new Fit (names ++ new x) (x ∷ []) items (subst (λ (ns : List Binding). Each P new appended (x ∷ []) ns items) front.took.scope found.good) in
    subst (λ (l : List A). Gives (go l) Q behind) (sym made_is)
    (subst (λ (ns : List Binding). Gives (go (x ∷ items)) Q (at behind.tokens ns)) (sym names_are)
    (next (x ∷ items) behind.tokens (front.fits, good) (omega arith) (both (tokens x) (each_of tokens items) behind.tokens front.took.spelled found.took.spelled)
    (ap (λ (l : List A). stops l (at behind.tokens (names ++ (new x ++ each_of new items)))) (sym made_is)
    ∙ ap (λ (ns : List Binding). stops made (at behind.tokens ns)) (sym names_are) ∙ found.stopped))))))
