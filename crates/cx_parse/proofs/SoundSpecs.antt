-- What the readers of specifiers give stood in front.
use Rattle.std.proofs.Common.{◌≡◌, ℕ, suc, ◌<◌, ◌≤◌, Bool, true, false, ◌||◌, ◌&&◌, List, [], ◌∷◌, ◌++◌, length, fold, refl, sym, ap, ◌∙◌, subst, arith, append_assoc}
use Rattle.std.proofs.lemmas.List.{append-nil}
use Rattle.std.specs.Prelude.{not}
use Rattle.cx_cursor.specs.Lists.{many_ahead, taking}
use Rattle.cx_cursor.specs.Reading.{State, at, Reader, bind}
use Rattle.cx_cursor.specs.Sights.{sight, sight_in, word_sight}
use Rattle.cx_cursor.specs.declared.sight.Sight.{Sight}
use Rattle.cx_cursor.proofs.Readers.{Gives, gives_bind, Took}
use Rattle.cx_expr.specs.Below.{Below}
use Rattle.cx_expr.specs.Specifiers.{SpecsRead, specs_read, with_spec, stops_specs, specs_from}
use Rattle.cx_words.specs.Beginnings.{begins_tagged, begins_member_spec, begins_spec, shows_spec}
use Rattle.cx_lex.specs.declared.token.Keyword.{Keyword}
use Rattle.cx_lex.specs.declared.token.Keyword.TheVariants as keywords
use Rattle.cx_lex.specs.declared.token.Token.{Token}
use Rattle.cx_parse.proofs.Lists.{each_of, Each, Items, many_ahead_sound}
use Rattle.cx_parse.proofs.SoundRules.{on_test, refused, with_names}
use Rattle.cx_parse.proofs.Stood.{SpecFits, SpecStood, AllSound}
use Rattle.cx_parse.proofs.StoodStmts.{SpecsStood}
use Rattle.cx_tree.specs.Depth.{spec_depth, specs_depth}
use Rattle.cx_tree.specs.Names.{Binding, is_type, new_spec, new_specs, is_type_specifier, has_type_specifier, first_name, IsOrdinary, StandsBehind, SpecStands, SpecsStand}
use Rattle.cx_tree.specs.Tokens as tree
use Rattle.cx_tree.specs.Tokens.{spec_tokens, specs_tokens, declarator_tokens, owns, brackets_front, length_tokens, behind_front}
use Rattle.cx_tree.specs.Trees.{SpecTree, Key, Typedef, Record, Enum, DeclaratorTree, Missing, Identifier, Group, Pointer, Array, Function, Identifiers}
use Rattle.cx_tree.specs.Valid.{is_qualifying, are_qualifying, IsValidSpec, AreValidSpecs, specs_count}
use Rattle.cx_tree.specs.Views.{specs}
use Rattle.cx_tree.specs.Words.{is_type_word, is_qualifier, is_storage_class, is_function_specifier}

-- ---- truth values

or_assoc : (a b c : Bool) → ((a || b) || c) ≡ (a || (b || c))
or_assoc true b c = refl
or_assoc false b c = refl

or_false : (a : Bool) → a ≡ (a || false)
or_false true = refl
or_false false = refl

-- ---- one specifier in a list

-- a keyword that begins a specifier of a member is no storage class and no function specifier
member_word : (w : Keyword) → begins_spec false w ≡ true → not (is_storage_class w || is_function_specifier w) ≡ true
unfolding begins_spec begins_member_spec begins_tagged is_type_word is_qualifier is_storage_class is_function_specifier
member_word keywords.Typedef h = cc
member_word _ h = cc

-- a specifier behind others, which say whether a type specifier is among them; `wide`: storage classes may stand there
record SpecGood (most : ℕ) (wide typed : Bool) (names : List Binding) (s : SpecTree) : Type 0 where
  valid : IsValidSpec s
  stands : SpecStands names typed s
  deep : spec_depth s ≤ most
  qualifies : wide ≡ false → is_qualifying s ≡ true

abbrev ahead_is : (wide typed : Bool) (t : Token) (rest tokens : List Token) (names : List Binding) → tokens ≡ t ∷ rest → shows_spec wide typed (sight_in names tokens) ≡ true
    → shows_spec wide typed (sight_in names (t ∷ rest)) ≡ true
ahead_is wide typed t rest tokens names e shows = ap (λ (ts : List Token). shows_spec wide typed (sight_in names ts)) (sym e) ∙ shows

type_word : (wide typed b : Bool) → b ≡ true → shows_spec wide typed (word_sight b) ≡ true → typed ≡ false
type_word wide true true is e = cc
type_word wide false true is e = refl
type_word wide typed false is e = cc

spec_good : (most : ℕ) (wide typed : Bool) (tokens rest : List Token) (names : List Binding) (s : SpecTree) → shows_spec wide typed (sight_in names tokens) ≡ true
    → tokens ≡ spec_tokens s ++ rest → SpecFits most names s → SpecGood most wide typed names s
spec_good most wide typed tokens rest names (Key w lines) shows e fit =
    let here = ahead_is wide typed (tree.key lines 0 w) rest tokens names e shows in
    record {
      valid = fit.valid;
      stands = tt;
      deep = fit.deep;
      qualifies = λ narrow. member_word w (ap (λ (b : Bool). begins_spec b w) (sym narrow) ∙ here);
    }
spec_good most wide typed tokens rest names (Typedef name lines) shows e fit =
    let here = ahead_is wide typed (tree.word lines 0 name) rest tokens names e shows in
    record { valid = fit.valid; stands = (fit.stands.0, type_word wide typed (is_type names name) fit.stands.0 here); deep = fit.deep; qualifies = λ narrow. refl }
spec_good most wide typed tokens rest names (Record is_union tag _ lines) shows e fit =
    record { valid = fit.valid; stands = fit.stands; deep = fit.deep; qualifies = λ narrow. refl }
spec_good most wide typed tokens rest names (Enum tag list last_comma lines) shows e fit =
    record { valid = fit.valid; stands = fit.stands; deep = fit.deep; qualifies = λ narrow. refl }

-- ---- lists of them

abbrev Good : ℕ → Bool → SpecsRead → List Binding → SpecTree → Type 0
Good most wide all names s = SpecGood most wide all.typed names s

pub fold_specs : (ss : List SpecTree) (list : List SpecTree) (typed : Bool) → fold with_spec (specs_read list typed) ss ≡ specs_read (list ++ ss) (typed || has_type_specifier (specs ss))
fold_specs [] list typed = λ i. specs_read (sym (append-nil list) i) (or_false typed i)
fold_specs (s ∷ ss) list typed =
    fold_specs ss (list ++ s ∷ []) (typed || is_type_specifier s)
    ∙ (λ i. specs_read (append_assoc list (s ∷ []) ss i) (or_assoc typed (is_type_specifier s) (has_type_specifier (specs ss)) i))

pub specs_tokens_are : (ss : List SpecTree) → specs_tokens (specs ss) ≡ each_of spec_tokens ss
specs_tokens_are [] = refl
specs_tokens_are (s ∷ ss) = ap (λ (ts : List Token). spec_tokens s ++ ts) (specs_tokens_are ss)

pub specs_new : (ss : List SpecTree) → new_specs (specs ss) ≡ each_of new_spec ss
specs_new [] = refl
specs_new (s ∷ ss) = ap (λ (bs : List Binding). new_spec s ++ bs) (specs_new ss)

pub specs_many : (ss : List SpecTree) → specs_count (specs ss) ≡ length ss
specs_many [] = refl
specs_many (s ∷ ss) = ap suc (specs_many ss)

module _ (most : ℕ) (wide : Bool) where
  valid_all : (all : SpecsRead) (names : List Binding) (ss : List SpecTree) → Each (Good most wide) new_spec with_spec all names ss → AreValidSpecs (specs ss)
  valid_all all names [] good = tt
  valid_all all names (s ∷ ss) good = (good.0.valid, valid_all (with_spec all s) (names ++ new_spec s) ss good.1)

  stand_all : (all : SpecsRead) (names : List Binding) (ss : List SpecTree) → Each (Good most wide) new_spec with_spec all names ss → SpecsStand names all.typed (specs ss)
  stand_all all names [] good = tt
  stand_all all names (s ∷ ss) good = (good.0.stands, stand_all (with_spec all s) (names ++ new_spec s) ss good.1)

  deep_all : (all : SpecsRead) (names : List Binding) (ss : List SpecTree) → Each (Good most wide) new_spec with_spec all names ss → specs_depth (specs ss) ≤ most
  deep_all all names [] good = omega arith
  deep_all all names (s ∷ ss) good =
      let one : spec_depth s ≤ most = good.0.deep in let more = deep_all (with_spec all s) (names ++ new_spec s) ss good.1 in omega (arith, one, more)

  qualify_all : wide ≡ false → (all : SpecsRead) (names : List Binding) (ss : List SpecTree) → Each (Good most wide) new_spec with_spec all names ss → are_qualifying (specs ss) ≡ true
  qualify_all narrow all names [] good = refl
  qualify_all narrow all names (s ∷ ss) good =
      let one = good.0.qualifies narrow in let more = qualify_all narrow (with_spec all s) (names ++ new_spec s) ss good.1 in
      ap (λ (b : Bool). b && are_qualifying (specs ss)) one ∙ more

-- what was read of specifiers; `wide`: of any declaration, with storage classes
pub record SpecsFound (most : ℕ) (wide : Bool) (state : State) (read : SpecsRead) (after : State) : Type 0 where
  pub read_so : SpecsStood most wide state read after
  pub qualifies : wide ≡ false → are_qualifying (specs read.list) ≡ true

-- specifiers that were there
specs_some : (wide : Bool) (state after : State) (read : SpecsRead) (ss : List SpecTree) → stops_specs wide (specs_read [] false) state ≡ false
    → read ≡ specs_read ss (has_type_specifier (specs ss)) → Took (each_of spec_tokens ss) (each_of new_spec ss) state after → stops_specs wide read after ≡ true → 0 < length ss
specs_some wide state after read [] goes made took stop =
    let same : sight state ≡ sight after =
    ap (λ (ts : List Token). sight_in state.names ts) took.spelled ∙ ap (λ (ns : List Binding). sight_in ns after.tokens) (sym (append-nil state.names) ∙ sym took.scope) in
    let e : stops_specs wide (specs_read [] false) state ≡ stops_specs wide read after =
    ap (λ (s : Sight). not (shows_spec wide false s)) same ∙ ap (λ (r : SpecsRead). stops_specs wide r after) (sym made) in
    cc
specs_some wide state after read (s ∷ ss) goes made took stop = omega arith

not_true : (b : Bool) → not b ≡ true → b ≡ false
not_true true e = cc
not_true false e = refl

not_false : (b : Bool) → not b ≡ false → b ≡ true
not_false true e = refl
not_false false e = cc

module _ (below : Below) (most : ℕ) (sound : AllSound below most) (wide : Bool) where
  found : (state : State) → stops_specs wide (specs_read [] false) state ≡ false
      → Gives (many_ahead (stops_specs wide) (taking below.spec with_spec) (specs_read [] false)) (SpecsFound most wide state) state
  found state goes read after e =
      let items : Items (Good most wide) spec_tokens new_spec with_spec (stops_specs wide) (specs_read [] false) state read after =
      many_ahead_sound (Good most wide) spec_tokens new_spec with_spec (stops_specs wide) below.spec
      (λ all s go. λ a after e. let one : SpecStood most s a after = sound.spec s a after e in
      (one.took, spec_good most wide all.typed s.tokens after.tokens s.names a (not_false (shows_spec wide all.typed (sight s)) go) one.took.spelled one.fits))
      (specs_read [] false) state read after e in
      let ss = items.items in
      let made : read ≡ specs_read ss (has_type_specifier (specs ss)) = items.taken ∙ fold_specs ss [] false in
      let some : 0 < length ss = specs_some wide state after read ss goes made items.took items.stopped in
      let stop : stops_specs wide (specs_read ss (has_type_specifier (specs ss))) after ≡ true = ap (λ (r : SpecsRead). stops_specs wide r after) (sym made) ∙ items.stopped in
      subst (λ (r : SpecsRead). SpecsFound most wide state r after) (sym made) (record {
        read_so = record {
          stood = record {
            took = record {
              spelled = items.took.spelled ∙ ap (λ (ts : List Token). ts ++ after.tokens) (sym (specs_tokens_are ss));
              scope = items.took.scope ∙ ap (λ (bs : List Binding). state.names ++ bs) (sym (specs_new ss));
            };
            fits = record {
              valid = record { present = let many = specs_many ss in omega (arith, many, some); each = valid_all most wide (specs_read [] false) state.names ss items.good };
              stands = stand_all most wide (specs_read [] false) state.names ss items.good;
              deep = deep_all most wide (specs_read [] false) state.names ss items.good;
            };
          };
          typed = refl;
          stopped = not_true (shows_spec wide (has_type_specifier (specs ss)) (sight after)) stop;
        };
        qualifies = λ narrow. qualify_all most wide narrow (specs_read [] false) state.names ss items.good;
      })

  pub specs_found : (state : State) → Gives (specs_from below wide) (SpecsFound most wide state) state
  unfolding specs_from
  specs_found state = on_test (stops_specs wide (specs_read [] false) state) _ (λ _. refused _) (λ goes. found state goes)

  -- what is read behind specifiers
  pub on_specs : {B : Type 0} {ts : List Token} {names : List Binding} (go : SpecsRead → Reader B) (Q : B → State → Type 0)
      → ((read : SpecsRead) (rest : List Token) → SpecsFound most wide (at ts names) read (at rest (names ++ new_specs (specs read.list)))
      → Gives (go read) Q (at rest (names ++ new_specs (specs read.list))))
      → Gives (bind (specs_from below wide) go) Q (at ts names)
  on_specs {B} {ts} {names} go Q next =
      gives_bind (specs_from below wide) go (SpecsFound most wide (at ts names)) Q (at ts names) (specs_found (at ts names)) (λ read mid f.
      let scope = f.read_so.stood.took.scope in
      let names_are : mid.names ≡ names ++ new_specs (specs read.list) = scope in
      with_names (go read) Q mid (names ++ new_specs (specs read.list)) scope
      (next read mid.tokens (subst (λ (ns : List Binding). SpecsFound most wide (at ts names) read (at mid.tokens ns)) names_are f)))

-- ---- a declarator behind them

word_ordinary : (wide b : Bool) → shows_spec wide false (word_sight b) ≡ false → b ≡ false
word_ordinary wide true e = cc
word_ordinary wide false e = refl

begins_ordinary : (wide : Bool) (d : DeclaratorTree) (tokens rest : List Token) (names : List Binding) → shows_spec wide false (sight_in names tokens) ≡ false
    → tokens ≡ declarator_tokens d ++ rest → IsOrdinary names (first_name d)
begins_ordinary wide Missing tokens rest names stop e = tt
begins_ordinary wide (Identifier name lines) tokens rest names stop e =
    word_ordinary wide (is_type names name) (ap (λ (ts : List Token). shows_spec wide false (sight_in names ts)) (sym e) ∙ stop)
begins_ordinary wide (Group inner lines) tokens rest names stop e = tt
begins_ordinary wide (Pointer qualifiers of lines) tokens rest names stop e = tt
begins_ordinary wide (Array of brackets lines) tokens rest names stop e =
    begins_ordinary wide of tokens _ names stop (e ∙ append_assoc (declarator_tokens of) _ rest)
begins_ordinary wide (Function of _ variadic lines) tokens rest names stop e =
    begins_ordinary wide of tokens _ names stop (e ∙ append_assoc (declarator_tokens of) _ rest)
begins_ordinary wide (Identifiers of listed lines) tokens rest names stop e =
    begins_ordinary wide of tokens _ names stop (e ∙ append_assoc (declarator_tokens of) _ rest)

pub behind_specs : (wide typed : Bool) (d : DeclaratorTree) (tokens rest : List Token) (names : List Binding) → shows_spec wide typed (sight_in names tokens) ≡ false
    → tokens ≡ declarator_tokens d ++ rest → StandsBehind typed names d
behind_specs wide true d tokens rest names stop e = tt
behind_specs wide false d tokens rest names stop e = begins_ordinary wide d tokens rest names stop e

-- where no further specifier stands ahead, the declarator that stood there belongs behind the specifiers
pub stands_behind : (wide typed : Bool) (d : DeclaratorTree) (new : List Binding) (state after : State) → shows_spec wide typed (sight state) ≡ false
    → Took (declarator_tokens d) new state after → StandsBehind typed state.names d
stands_behind wide typed d new state after stop took = behind_specs wide typed d state.tokens after.tokens state.names stop took.spelled
