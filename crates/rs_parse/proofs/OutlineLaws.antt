-- What is read from `main.rs`.
use Rattle.std.proofs.Common.{◌≡◌, ℕ, zero, suc, ◌+◌, ◌*◌, ◌-◌, ◌<◌, ◌≤◌, nat_le, Bool, true, false, ◌&&◌, ◌||◌, List, [], ◌∷◌, ◌++◌, map, length, drop, codes, bytes_eq, Option, Some, None, refl, sym, ap, ◌∙◌, slice_get, get_or, option_map, Result, Err, arith, append_assoc, append-nil, length-append}
use Rattle.std.specs.Cmp.Lexicographic.{same_text}
use Rattle.std.specs.List.{list_all}
use Rattle.std.proofs.Math.Seq.{drop-append-add}
use Rattle.std.proofs.lemmas.Bool.{and_parts, cond-true, cond-false}
use Rattle.std.proofs.lemmas.List.{length-map}
use Rattle.std.proofs.lemmas.Option.{slice_get-map, slice_get-get_or}
use Rattle.rs_expr.specs.Signs.{text_at}
use Rattle.rs_lex.specs.Closed.{closed_in}
use Rattle.rs_lex.specs.declared.lexer.LexFault.{LexFault}
use Rattle.rs_lex.specs.declared.lexer.LexFault.TheVariants.{NotTokens}
use Rattle.rs_lex.specs.declared.token.Token.{Token}
use Rattle.rs_lex.specs.Lexed.{IsLexed}
use Rattle.rs_lex.specs.Same.{same_tokens}
use Rattle.rs_parse.specs.Crates.{NamesModules}
use Rattle.rs_parse.specs.Outline.{declared_in, entry_in, IsOutlineIn, are_of, are_mains, Outlines}
use Rattle.rs_parse.specs.Outline as outline
use Rattle.rs_parse.proofs.CargoLaws.{lexed_none}
use Rattle.rs_parse.proofs.CutFits.{some_same, spells_closed}
use Rattle.rs_parse.proofs.Lexing.{Text, Toks, same_self}
use Rattle.rs_parse.proofs.MainText.{main_tokens, main_spelled, declared, begun, left, head_of_main, allowed}
use Rattle.rs_parse.proofs.ModuleRead.{all_same, all_self}
use Rattle.rs_parse.proofs.OneCrate.{main_is, names_same, entry_same}
use Rattle.rs_parse.proofs.Still.{still_closed, main_still}
use Rattle.rs_text.specs.Lines.{main_of, main_lines, module_names, entry_name, name_or_empty, text_of_lines}
use Rattle.rs_text.specs.Names.{is_among, is_module_name}
use Rattle.rs_text.specs.Reads.{both_fit, IsMain}
use Rattle.rs_text.specs.Tokens.{Word, Mark, tokens_in}
use Rattle.rs_text.specs.Tree.{ModuleTree, CrateTree}
use Rattle.rs_text.specs.Valid.{all_differ, valid_names, valid_count}
use Rattle.rs_tree.specs.declared.item.Crate.{Crate}
use Rattle.rs_tree.specs.declared.item.Module.{Module}
use Rattle.rs_tree.specs.Views.{module_view, crate_view}
use Rattle.rs_valid.specs.Lists.{names_of}

-- ---- names

record NameParts (names : List Text) : Type 0 where
  some : 0 < length names
  count : length names ≤ 64
  are : list_all is_module_name names ≡ true

name_parts : (names : List Text) → valid_names names ≡ true → NameParts names
name_parts names v =
    let all = and_parts (valid_count (length names) && list_all is_module_name names) (all_differ names) v in
    let parts = and_parts (valid_count (length names)) (list_all is_module_name names) all.0 in
    let counts = and_parts (nat_le 1 (length names)) (nat_le (length names) 64) parts.0 in
    let some : nat_le 1 (length names) ≡ true = counts.0 in
    let most : nat_le (length names) 64 ≡ true = counts.1 in
    record { some = grind (arith, some); count = grind (arith, most); are = parts.1 }

among_by : (b : Bool) (n entry : Text) (ns : List Text) → bytes_eq n entry ≡ b → (b || is_among ns entry) ≡ true → list_all is_module_name (n ∷ ns) ≡ true →
    (is_among ns entry ≡ true → is_module_name entry ≡ true) → is_module_name entry ≡ true
among_by true n entry ns e h v more = ap is_module_name (sym (same_text n entry (sym e))) ∙ (and_parts (is_module_name n) (list_all is_module_name ns) v).0
among_by false n entry ns e h v more = more h

among_is : (names : List Text) (entry : Text) → is_among names entry ≡ true → list_all is_module_name names ≡ true → is_module_name entry ≡ true
among_is [] entry h v = cc
among_is (n ∷ ns) entry h v =
    among_by (bytes_eq n entry) n entry ns refl h v (λ g. among_is ns entry g (and_parts (is_module_name n) (list_all is_module_name ns) v).1)

or_second : (a b : Bool) → b ≡ true → (a || b) ≡ true
or_second true b h = refl
or_second false b h = h

or_first : (a b : Bool) → a ≡ true → (a || b) ≡ true
or_first true b h = refl
or_first false b h = cc

some_text : (a b : Text) → Some a ≡ Some b → a ≡ b
some_text a b h = cc

pub at_among : (names : List Text) (k : ℕ) (entry : Text) → slice_get names k ≡ Some entry → is_among names entry ≡ true
at_among [] k entry h = cc
at_among (n ∷ ns) zero entry h = or_first (bytes_eq n entry) (is_among ns entry) (ap (λ (t : Text). bytes_eq t entry) (some_text n entry h) ∙ same_self entry)
at_among (n ∷ ns) (suc k) entry h = or_second (bytes_eq n entry) (is_among ns entry) (at_among ns k entry h)

named_at : (o : Option ModuleTree) (entry : Text) → option_map (λ unit. unit.name) o ≡ Some entry → name_or_empty o ≡ entry
named_at None entry h = cc
named_at (Some unit) entry h = some_text unit.name entry h

pub entry_is : (outline : CrateTree) (entry : Text) → slice_get (module_names outline) outline.entry ≡ Some entry → entry_name outline ≡ entry
entry_is outline entry h = named_at (slice_get outline.modules outline.entry) entry (sym (slice_get-map (λ unit. unit.name) outline.modules outline.entry) ∙ h)

pub name_there : (units : List ModuleTree) (k : ℕ) → k < length units → slice_get (map (λ unit. unit.name) units) k ≡ Some (name_or_empty (slice_get units k))
name_there [] k h = absurd (omega (arith, h))
name_there (unit ∷ units) zero h = refl
name_there (unit ∷ units) (suc k) h = let less : k < length units = omega (arith, h) in name_there units k less

-- ---- where tokens of `main.rs` have the modules and the entry

declared_are : (turns : ℕ) (names : List Text) (rest : Toks) → length names ≤ turns → outline.declared turns (declared names ++ (head_of_main ++ rest)) ≡ names
unfolding outline.declared
declared_are zero [] rest h = refl
declared_are (suc turns) [] rest h = refl
declared_are zero (x ∷ xs) rest h = absurd (omega (arith, h))
declared_are (suc turns) (x ∷ xs) rest h = let less : length xs ≤ turns = omega (arith, h) in ap (λ l. x ∷ l) (declared_are turns xs rest less)

declared_size : (names : List Text) → length (declared names) ≡ 3 * length names
declared_size [] = refl
declared_size (x ∷ xs) = let e = declared_size xs in omega (arith, e)

begun_size : (names : List Text) → length (begun names) ≡ 8 * length names
begun_size [] = refl
begun_size (x ∷ xs) = let e = begun_size xs in omega (arith, e)

abbrev behind_entry : Text → Toks
behind_entry entry = left entry ++ ((Mark (codes "}") ∷ []) ++ (Mark (codes "}") ∷ []))

abbrev opened : Toks
opened = Word (codes "unsafe") ∷ Mark (codes "{") ∷ []

pub declared_in_main : (names : List Text) (entry : Text) → length names ≤ 64 → declared_in (main_tokens names entry) ≡ names
declared_in_main names entry h = declared_are 64 names (opened ++ (begun names ++ behind_entry entry)) h

entry_in_main : (names : List Text) (entry : Text) → entry_in (length names) (main_tokens names entry) ≡ entry
entry_in_main names entry =
    let d = declared_size names in
    let b = begun_size names in
    let one : 25 + 11 * length names ≡ length allowed + (length (declared names) + (length head_of_main + (length opened + (length (begun names) + 8)))) = omega (arith, d, b) in
    let fifth : Toks = behind_entry entry in
    let fourth : Toks = begun names ++ fifth in
    let third : Toks = opened ++ fourth in
    let second : Toks = head_of_main ++ third in
    let first : Toks = declared names ++ second in
    let fives = length (begun names) + 8 in
    let fours = length opened + fives in
    let threes = length head_of_main + fours in
    let twos = length (declared names) + threes in
    ap (λ n. text_at (drop n (main_tokens names entry))) one
    ∙ ap text_at (drop-append-add allowed first twos ∙ drop-append-add (declared names) second threes ∙ drop-append-add head_of_main third fours
    ∙ drop-append-add opened fourth fives ∙ drop-append-add (begun names) fifth 8)

-- ---- `main.rs` and its tokens

pub main_closed : (text : Text) (names : List Text) (entry : Text) → IsMain text names entry → closed_in text ≡ Some (main_tokens names entry)
main_closed text names entry m =
    let parts = name_parts names m.valid in
    still_closed text (main_tokens names entry) (main_still names entry) (main_is text names entry parts.are (among_is names entry m.among parts.are) m.spelled)

closed_main : (text : Text) (names : List Text) (entry : Text) → valid_names names ≡ true → is_among names entry ≡ true →
    closed_in text ≡ Some (main_tokens names entry) → IsMain text names entry
closed_main text names entry v a h =
    let parts = name_parts names v in
    record {
      valid = v;
      among = a;
      spelled = ap (λ (o : Option Toks). both_fit (tokens_in text) o) (main_spelled names entry parts.are (among_is names entry a parts.are)) ∙ spells_closed text (main_tokens names entry) h;
    }

printed_closed : (names : List Text) (entry : Text) → valid_names names ≡ true → is_among names entry ≡ true →
    closed_in (text_of_lines (main_of names entry)) ≡ Some (main_tokens names entry)
printed_closed names entry v a =
    let parts = name_parts names v in
    still_closed (text_of_lines (main_of names entry)) (main_tokens names entry) (main_still names entry) (main_spelled names entry parts.are (among_is names entry a parts.are))

-- ---- what is read of a text

found_among : (ts : Toks) (outline : CrateTree) → valid_names (module_names outline) ≡ true → IsOutlineIn ts outline → is_among (module_names outline) (entry_name outline) ≡ true
found_among ts outline v o =
    let parts = name_parts (module_names outline) v in
    let some = parts.some in
    let size = length-map outline.modules (λ unit. unit.name) in
    let within : outline.entry < length outline.modules = o.within (omega (arith, some, size)) in
    at_among (module_names outline) outline.entry (entry_name outline) (name_there outline.modules outline.entry within)

pub found : (text : Text) (ts : Toks) (outline : CrateTree) → closed_in text ≡ Some ts → are_mains ts outline ≡ true → IsOutlineIn ts outline → Outlines text outline
found text ts outline h a o =
    let names = module_names outline in
    let entry = entry_name outline in
    let parts = and_parts (valid_names names) (are_of ts (closed_in (text_of_lines (main_lines outline)))) a in
    let named = name_parts names parts.0 in
    let some = named.some in
    let size = length-map outline.modules (λ unit. unit.name) in
    let among = found_among ts outline parts.0 o in
    let same : same_tokens ts (main_tokens names entry) ≡ true = sym (ap (λ (p : Option Toks). are_of ts p) (printed_closed names entry parts.0 among)) ∙ parts.1 in
    record {
      main = closed_main text names entry parts.0 among (h ∙ ap Some (all_same ts (main_tokens names entry) same));
      entry = o.within (omega (arith, some, size));
    }

mains : (names : List Text) (entry : Text) (outline : CrateTree) → valid_names names ≡ true → is_among names entry ≡ true →
    module_names outline ≡ names → entry_name outline ≡ entry → are_mains (main_tokens names entry) outline ≡ true
mains names entry outline v a n e =
    let printed : closed_in (text_of_lines (main_lines outline)) ≡ Some (main_tokens names entry) =
    ap (λ (l : List Text). closed_in (text_of_lines (main_of l (entry_name outline)))) n ∙ ap (λ (l : Text). closed_in (text_of_lines (main_of names l))) e ∙ printed_closed names entry v a in
    ap (λ (l : List Text). valid_names l && are_of (main_tokens names entry) (closed_in (text_of_lines (main_lines outline)))) n
    ∙ ap (λ b. b && are_of (main_tokens names entry) (closed_in (text_of_lines (main_lines outline)))) v
    ∙ ap (λ (p : Option Toks). are_of (main_tokens names entry) p) printed
    ∙ all_self (main_tokens names entry)

pub refused : (text : Text) (ts : Toks) (outline : CrateTree) (names : List Text) (entry : Text) → closed_in text ≡ Some ts → are_mains ts outline ≡ false → IsOutlineIn ts outline →
    IsMain text names entry → ⊥
refused text ts outline names entry h a o m =
    let parts = name_parts names m.valid in
    let tokens : ts ≡ main_tokens names entry = some_same (sym h ∙ main_closed text names entry m) in
    let same : module_names outline ≡ names = o.names ∙ ap declared_in tokens ∙ declared_in_main names entry parts.count in
    let size : length outline.modules ≡ length names = sym (length-map outline.modules (λ unit. unit.name)) ∙ ap length same in
    let place : entry_in (length outline.modules) ts ≡ entry = ap (λ n. entry_in n ts) size ∙ ap (entry_in (length names)) tokens ∙ entry_in_main names entry in
    let among : is_among (module_names outline) (entry_in (length outline.modules) ts) ≡ true = ap (λ (l : List Text). is_among l (entry_in (length outline.modules) ts)) same ∙ ap (λ (t : Text). is_among names t) place ∙ m.among in
    let named : entry_name outline ≡ entry = entry_is outline entry (o.found among ∙ ap Some place) in
    let are : are_mains ts outline ≡ true = ap (λ (l : Toks). are_mains l outline) tokens ∙ mains names entry outline m.valid m.among same named in
    cc

pub no_tokens : (text : Text) (names : List Text) (entry : Text) → closed_in text ≡ None → IsMain text names entry → ⊥
no_tokens text names entry h m = let e = main_closed text names entry m in cc

pub one_main : (text : Text) (names others : List Text) → NamesModules text names → NamesModules text others → names ≡ others
one_main text names others m n = names_same names others m.0 n.0 (some_same (sym (main_closed text names m.0 m.1) ∙ main_closed text others n.0 n.1))

pub one_entry : (text : Text) (names : List Text) (entry other : Text) → IsMain text names entry → IsMain text names other → entry ≡ other
one_entry text names entry other m n = entry_same names entry other (some_same (sym (main_closed text names entry m) ∙ main_closed text names other n))

-- ---- the modules that tokens declare

names_more : (modules : List Module) (unit : Module) → names_of (modules ++ unit ∷ []) ≡ names_of modules ++ unit.name ∷ []
names_more [] unit = refl
names_more (first ∷ modules) unit = ap (λ l. first.name ∷ l) (names_more modules unit)

-- those that are left come behind those that were read
pub record AreDeclared (all : Toks) (turn : ℕ) (modules : List Module) (tokens : Toks) : Type 0 where
  pub names : names_of modules ++ outline.declared (64 - turn) tokens ≡ outline.declared 64 all
  pub count : length modules ≡ turn

none_declared : (turns : ℕ) (tokens : Toks) → false ≡ bytes_eq (text_at tokens) (codes "mod") → outline.declared turns tokens ≡ []
unfolding outline.declared
none_declared zero tokens h = refl
none_declared (suc turns) tokens h = cond-false (bytes_eq (text_at tokens) (codes "mod")) _ _ (sym h)

no_turn : (tokens : Toks) → outline.declared 0 tokens ≡ []
unfolding outline.declared
no_turn tokens = refl

pub declared_end : (all : Toks) (turn : ℕ) (modules : List Module) (tokens : Toks) → AreDeclared all turn modules tokens → false ≡ bytes_eq (text_at tokens) (codes "mod") →
    names_of modules ≡ outline.declared 64 all
declared_end all turn modules tokens d h =
    sym (append-nil (names_of modules)) ∙ ap (λ l. names_of modules ++ l) (sym (none_declared (64 - turn) tokens h)) ∙ d.names

pub declared_out : (all : Toks) (turn : ℕ) (modules : List Module) (tokens : Toks) → AreDeclared all turn modules tokens → 64 ≤ turn → names_of modules ≡ outline.declared 64 all
declared_out all turn modules tokens d h =
    let none : 64 - turn ≡ 0 = omega (arith, h) in
    sym (append-nil (names_of modules)) ∙ ap (λ l. names_of modules ++ l) (sym (no_turn tokens)) ∙ ap (λ n. names_of modules ++ outline.declared n tokens) (sym none) ∙ d.names

one_declared : (turns left : ℕ) (tokens : Toks) → turns ≡ suc left → true ≡ bytes_eq (text_at tokens) (codes "mod") →
    outline.declared turns tokens ≡ text_at (drop 1 tokens) ∷ outline.declared left (drop 3 tokens)
unfolding outline.declared
one_declared turns left tokens e h =
    ap (λ n. outline.declared n tokens) e ∙ cond-true (bytes_eq (text_at tokens) (codes "mod")) _ _ (sym h)

pub declared_next : (all : Toks) (turn : ℕ) (modules more : List Module) (unit : Module) (tokens after : Toks) → AreDeclared all turn modules tokens → turn < 64 →
    true ≡ bytes_eq (text_at tokens) (codes "mod") → unit.name ≡ text_at (drop 1 tokens) → after ≡ drop 3 tokens → more ≡ modules ++ unit ∷ [] → AreDeclared all (turn + 1) more after
declared_next all turn modules more unit tokens after d h m n a e =
    let left : 64 - turn ≡ suc (64 - (turn + 1)) = omega (arith, h) in
    let count = d.count in
    let size = length-append modules (unit ∷ []) in
    let sizes : length more ≡ length modules + 1 = ap length e ∙ size in
    record {
      names = ap (λ (l : List Module). names_of l ++ outline.declared (64 - (turn + 1)) after) e ∙ ap (λ l. l ++ outline.declared (64 - (turn + 1)) after) (names_more modules unit)
          ∙ append_assoc (names_of modules) (unit.name ∷ []) (outline.declared (64 - (turn + 1)) after)
          ∙ ap (λ (t : Text). names_of modules ++ t ∷ outline.declared (64 - (turn + 1)) after) n
          ∙ ap (λ (l : Toks). names_of modules ++ text_at (drop 1 tokens) ∷ outline.declared (64 - (turn + 1)) l) a
          ∙ ap (λ l. names_of modules ++ l) (sym (one_declared (64 - turn) (64 - (turn + 1)) tokens left m)) ∙ d.names;
      count = omega (arith, sizes, count);
    }

-- ---- `main.rs` of an outline

pub main_not_refused : (outline : Crate) (text : Text) (result : Result (List Token) LexFault) (line : ℕ) → valid_names (module_names (crate_view outline)) ≡ true → outline.entry < length outline.modules →
    text ≡ text_of_lines (main_lines (crate_view outline)) → IsLexed (closed_in text) result → result ≡ Err (NotTokens line) → ⊥
main_not_refused outline text result line v h e l r =
    let names = module_names (crate_view outline) in
    let size = length-map outline.modules module_view in
    let within : outline.entry < length (crate_view outline).modules = omega (arith, h, size) in
    let among = at_among names outline.entry (entry_name (crate_view outline)) (name_there (crate_view outline).modules outline.entry within) in
    let printed : closed_in text ≡ Some (main_tokens names (entry_name (crate_view outline))) = ap closed_in e ∙ printed_closed names (entry_name (crate_view outline)) v among in
    let none = lexed_none (closed_in text) result line l r in
    cc

pub named_here : (modules : List Module) (index : ℕ) (unit : Module) (name bytes : Text) → index < length modules → unit ≡ get_or modules index unit → bytes ≡ (get_or modules index unit).name →
    true ≡ bytes_eq bytes name → slice_get (names_of modules) index ≡ Some name
named_here modules index unit name bytes h e b n =
    slice_get-map (λ unit. unit.name) (map module_view modules) index
    ∙ ap (λ (o : Option ModuleTree). option_map (λ unit. unit.name) o) (slice_get-map module_view modules index ∙ ap (λ (o : Option Module). option_map module_view o) (slice_get-get_or modules index unit h))
    ∙ ap (λ (t : Text). Some t) (sym b ∙ same_text bytes name n)
