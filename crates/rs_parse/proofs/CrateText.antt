-- The text of a valid crate is read as that crate.
use Rattle.std.proofs.Common.{◌≡◌, ℕ, suc, ◌+◌, Bool, true, false, not, ◌&&◌, ◌||◌, List, [], ◌∷◌, ◌++◌, map, length, codes, bytes_eq, refl, sym, ap, ◌∙◌, arith, append_assoc, length-append, zero, slice_get, if◌then◌else◌}
use Rattle.std.specs.Cmp.Lexicographic.{same_text}
use Rattle.std.specs.List.{list_all, list_any}
use Rattle.std.proofs.lemmas.List.{length-map}
use Rattle.std.proofs.lemmas.Bool.{and_parts, cond-true, cond-false}
use Rattle.shelf.specs.declared.file.File.{File}
use Rattle.rs_text.specs.Lines.{main_of, main_lines, module_lines, cargo_lines, module_names, entry_name, name_or_empty, text_of_lines}
use Rattle.rs_text.specs.Names.{is_plain_identifier, is_module_name}
use Rattle.rs_text.specs.Reads.{both_fit, spells, spells_main, spells_cargo, texts_named, holds_once, spells_module, ReadsAs}
use Rattle.rs_text.specs.Spelling.{module_tokens}
use Rattle.rs_text.specs.Text.{module_path, main_path, cargo_path, file_of, module_file, text_of}
use Rattle.rs_text.specs.Tokens.{marks}
use Rattle.rs_text.specs.Tree.{ModuleTree, CrateTree}
use Rattle.rs_text.specs.Valid.{all_differ, valid_items, valid_names, valid_count, has_entry, valid_crate}
use Rattle.rs_parse.proofs.Lexing.{Text, same_self}
use Rattle.rs_parse.proofs.MainText.{main_tokens, main_plain, main_spelled, self_fit}
use Rattle.rs_parse.proofs.ModuleLaws.{module_texts_spell}
use Rattle.rs_parse.proofs.NameSigns.{not_true}

-- ---- paths

abbrev tail_of : Text → Text
tail_of [] = []
tail_of (n ∷ ns) = ns

abbrev head_of : Text → ℕ
head_of [] = 0
head_of (n ∷ ns) = n

cons_same : (a b : ℕ) (x y : Text) → a ∷ x ≡ b ∷ y → x ≡ y
cons_same a b x y h = ap (λ (l : Text). tail_of l) h

no_longer : (b : ℕ) (y s : Text) → s ≡ b ∷ (y ++ s) → ⊥
no_longer b y s h = let e = ap length h in let f = length-append y s in omega (arith, e, f)

-- what stands in front of equal ends is equal
cancel : (x y s : Text) → x ++ s ≡ y ++ s → x ≡ y
cancel [] [] s h = refl
cancel [] (b ∷ y) s h = absurd (no_longer b y s h)
cancel (a ∷ x) [] s h = absurd (no_longer a x s (sym h))
cancel (a ∷ x) (b ∷ y) s h =
    let rest : x ≡ y = cancel x y s (cons_same a b (x ++ s) (y ++ s) h) in
    let first : a ≡ b = ap (λ (l : Text). head_of l) h in
    ap (λ n. n ∷ x) first ∙ ap (λ (l : Text). b ∷ l) rest

false_by : (b : Bool) → (b ≡ true → ⊥) → b ≡ false
false_by true h = absurd (h refl)
false_by false h = refl

clash : (b : Bool) → b ≡ true → b ≡ false → ⊥
clash true h g = cc
clash false h g = cc

same_name : (m n : Text) → bytes_eq (module_path m) (module_path n) ≡ true → m ≡ n
same_name m n h =
    let whole : m ++ codes ".rs" ≡ n ++ codes ".rs" = same_text (m ++ codes ".rs") (n ++ codes ".rs") (sym h) in cancel m n (codes ".rs") whole

apart : (m n : Text) → bytes_eq m n ≡ false → bytes_eq (module_path m) (module_path n) ≡ false
apart m n h = false_by (bytes_eq (module_path m) (module_path n)) (λ same. clash (bytes_eq m n) (ap (λ (l : Text). bytes_eq l n) (same_name m n same) ∙ same_self n) h)

swap_false : (m n : Text) → bytes_eq m n ≡ false → bytes_eq n m ≡ false
swap_false m n h = false_by (bytes_eq n m) (λ same. clash (bytes_eq m n) (ap (λ (l : Text). bytes_eq m l) (same_text n m (sym same)) ∙ same_self m) h)

main_apart : (m : Text) → is_module_name m ≡ true → bytes_eq (module_path m) main_path ≡ false
main_apart m v = apart m (codes "main") (not_true (bytes_eq m (codes "main")) (and_parts (is_plain_identifier m) (not (bytes_eq m (codes "main"))) v).1)

-- ---- files of a name

named_append : (name : Text) (xs ys : List File) → texts_named name (xs ++ ys) ≡ texts_named name xs ++ texts_named name ys
named_append name [] ys = refl
named_append name (x ∷ xs) ys = by_name (bytes_eq x.name name) (named_append name xs ys)
  where
    by_name : (b : Bool) → texts_named name (xs ++ ys) ≡ texts_named name xs ++ texts_named name ys →
        (if b then x.bytes ∷ texts_named name (xs ++ ys) else texts_named name (xs ++ ys)) ≡ (if b then x.bytes ∷ texts_named name xs else texts_named name xs) ++ texts_named name ys
    by_name true h = ap (λ l. x.bytes ∷ l) h
    by_name false h = h

-- no module has this path
none_named : (path : Text) (units : List ModuleTree) → list_all (λ unit. not (bytes_eq (module_path unit.name) path)) units ≡ true → texts_named path (map module_file units) ≡ []
none_named path [] h = refl
none_named path (unit ∷ units) h =
    let parts = and_parts (not (bytes_eq (module_path unit.name) path)) (list_all (λ unit. not (bytes_eq (module_path unit.name) path)) units) h in
    cond-false (bytes_eq (module_path unit.name) path) _ _ (not_true (bytes_eq (module_path unit.name) path) parts.0) ∙ none_named path units parts.1

abbrev main_file : CrateTree → File
main_file whole = file_of main_path (text_of_lines (main_lines whole))

abbrev cargo_file : File
cargo_file = file_of cargo_path (text_of_lines cargo_lines)

no_cargo : (units : List ModuleTree) → list_all (λ unit. not (bytes_eq (module_path unit.name) cargo_path)) units ≡ true
no_cargo [] = refl
no_cargo (unit ∷ units) = no_cargo units

no_main : (units : List ModuleTree) → list_all is_module_name (map (λ unit. unit.name) units) ≡ true → list_all (λ unit. not (bytes_eq (module_path unit.name) main_path)) units ≡ true
no_main [] v = refl
no_main (unit ∷ units) v =
    let parts = and_parts (is_module_name unit.name) (list_all is_module_name (map (λ unit. unit.name) units)) v in
    ap (λ b. not b && list_all (λ unit. not (bytes_eq (module_path unit.name) main_path)) units) (main_apart unit.name parts.0) ∙ no_main units parts.1

cargo_once : (whole : CrateTree) → texts_named cargo_path (text_of whole) ≡ text_of_lines cargo_lines ∷ []
cargo_once whole =
    named_append cargo_path (map module_file whole.modules) (main_file whole ∷ cargo_file ∷ [])
    ∙ ap (λ l. l ++ (text_of_lines cargo_lines ∷ [])) (none_named cargo_path whole.modules (no_cargo whole.modules))

main_once : (whole : CrateTree) → list_all is_module_name (module_names whole) ≡ true → texts_named main_path (text_of whole) ≡ text_of_lines (main_lines whole) ∷ []
main_once whole v =
    named_append main_path (map module_file whole.modules) (main_file whole ∷ cargo_file ∷ [])
    ∙ ap (λ l. l ++ (text_of_lines (main_lines whole) ∷ [])) (none_named main_path whole.modules (no_main whole.modules v))

-- ---- names that differ

abbrev among : Text → List Text → Bool
among name names = list_any (λ other. bytes_eq other name) names

record IsApart (xs ys : List Text) (n : Text) : Type 0 where
  before : among n xs ≡ false
  behind : among n ys ≡ false

pub or_parts : (a b : Bool) → (a || b) ≡ false → (a ≡ false) × (b ≡ false)
or_parts true b h = cc
or_parts false b h = (refl, h)

or_false : (a b : Bool) → a ≡ false → b ≡ false → (a || b) ≡ false
or_false true b h g = cc
or_false false b h g = g

-- what holds of no element of a list holds of none that stands in it
not_here : (x n : Text) (xs ys : List Text) → among x (xs ++ n ∷ ys) ≡ false → bytes_eq n x ≡ false
not_here x n [] ys h = (or_parts (bytes_eq n x) (among x ys) h).0
not_here x n (z ∷ xs) ys h = not_here x n xs ys (or_parts (bytes_eq z x) (among x (xs ++ n ∷ ys)) h).1

differ : (xs ys : List Text) (n : Text) → all_differ (xs ++ n ∷ ys) ≡ true → IsApart xs ys n
differ [] ys n h = record { before = refl; behind = not_true (among n ys) (and_parts (not (among n ys)) (all_differ ys) h).0 }
differ (x ∷ xs) ys n h =
    let parts = and_parts (not (among x (xs ++ n ∷ ys))) (all_differ (xs ++ n ∷ ys)) h in
    let more = differ xs ys n parts.1 in
    let here = not_here x n xs ys (not_true (among x (xs ++ n ∷ ys)) parts.0) in
    record { before = or_false (bytes_eq x n) (among n xs) (swap_false n x here) more.before; behind = more.behind }

no_path : (units : List ModuleTree) (n : Text) → among n (map (λ unit. unit.name) units) ≡ false → list_all (λ unit. not (bytes_eq (module_path unit.name) (module_path n))) units ≡ true
no_path [] n h = refl
no_path (unit ∷ units) n h =
    let parts = or_parts (bytes_eq unit.name n) (among n (map (λ unit. unit.name) units)) h in
    ap (λ b. not b && list_all (λ unit. not (bytes_eq (module_path unit.name) (module_path n))) units) (apart unit.name n parts.0) ∙ no_path units n parts.1

-- ---- modules

map_append : (xs ys : List ModuleTree) → map (λ unit. unit.name) (xs ++ ys) ≡ map (λ unit. unit.name) xs ++ map (λ unit. unit.name) ys
map_append [] ys = refl
map_append (x ∷ xs) ys = ap (λ l. x.name ∷ l) (map_append xs ys)

file_append : (xs ys : List ModuleTree) → map module_file (xs ++ ys) ≡ map module_file xs ++ map module_file ys
file_append [] ys = refl
file_append (x ∷ xs) ys = ap (λ l. module_file x ∷ l) (file_append xs ys)

-- the file of a module that stands between others
module_once : (front units : List ModuleTree) (unit : ModuleTree) (rest : List File) → all_differ (map (λ unit. unit.name) (front ++ unit ∷ units)) ≡ true →
    texts_named (module_path unit.name) rest ≡ [] → texts_named (module_path unit.name) (map module_file (front ++ unit ∷ units) ++ rest) ≡ text_of_lines (module_lines unit) ∷ []
module_once front units unit rest h none =
    let n : Text = unit.name in
    let path : Text = module_path n in
    let names : IsApart (map (λ unit. unit.name) front) (map (λ unit. unit.name) units) n = differ _ _ n (sym (ap all_differ (map_append front (unit ∷ units))) ∙ h) in
    named_append path (map module_file (front ++ unit ∷ units)) rest
    ∙ ap (λ l. l ++ texts_named path rest) (ap (texts_named path) (file_append front (unit ∷ units)) ∙ named_append path (map module_file front) (map module_file (unit ∷ units)))
    ∙ ap (λ l. (l ++ texts_named path (map module_file (unit ∷ units))) ++ texts_named path rest) (none_named path front (no_path front n names.before))
    ∙ ap (λ l. l ++ texts_named path rest) (cond-true (bytes_eq path path) _ _ (same_self path))
    ∙ ap (λ l. (text_of_lines (module_lines unit) ∷ l) ++ texts_named path rest) (none_named path units (no_path units n names.behind))
    ∙ ap (λ l. text_of_lines (module_lines unit) ∷ l) none

each_spelled : (front units : List ModuleTree) (rest : List File) → all_differ (map (λ unit. unit.name) (front ++ units)) ≡ true →
    list_all is_module_name (map (λ unit. unit.name) units) ≡ true → list_all (λ unit. valid_items unit.items) units ≡ true →
    ((n : Text) → is_module_name n ≡ true → texts_named (module_path n) rest ≡ []) →
    list_all (spells_module (map module_file (front ++ units) ++ rest)) units ≡ true
each_spelled front [] rest h names valid none = refl
each_spelled front (unit ∷ units) rest h names valid none =
    let name_parts = and_parts (is_module_name unit.name) (list_all is_module_name (map (λ unit. unit.name) units)) names in
    let valid_parts = and_parts (valid_items unit.items) (list_all (λ unit. valid_items unit.items) units) valid in
    let once = module_once front units unit rest h (none unit.name name_parts.0) in
    let here : spells_module (map module_file (front ++ unit ∷ units) ++ rest) unit ≡ true =
    ap (λ l. holds_once l (λ text. spells text (module_tokens unit))) once ∙ module_texts_spell unit valid_parts.0 in
    let same : (front ++ unit ∷ []) ++ units ≡ front ++ unit ∷ units = append_assoc front (unit ∷ []) units in
    let more = each_spelled (front ++ unit ∷ []) units rest (ap (λ l. all_differ (map (λ unit. unit.name) l)) same ∙ h) name_parts.1 valid_parts.1 none in
    ap (λ b. b && list_all (spells_module (map module_file (front ++ unit ∷ units) ++ rest)) units) here
    ∙ ap (λ l. list_all (spells_module (map module_file l ++ rest)) units) (sym same) ∙ more

-- ---- the crate

no_other : (whole : CrateTree) (n : Text) → is_module_name n ≡ true → texts_named (module_path n) (main_file whole ∷ cargo_file ∷ []) ≡ []
no_other whole n v = cond-false (bytes_eq main_path (module_path n)) _ _ (swap_false (module_path n) main_path (main_apart n v))

cargo_spelled : spells_cargo (text_of_lines cargo_lines) ≡ true
unfolding cargo_lines marks
cargo_spelled = refl

-- the entry's name is one of the names
pub entry_named : (units : List ModuleTree) (k : ℕ) → list_all is_module_name (map (λ unit. unit.name) units) ≡ true → has_entry (slice_get units k) ≡ true → is_module_name (name_or_empty (slice_get units k)) ≡ true
entry_named [] k v h = cc
entry_named (unit ∷ units) zero v h = (and_parts (is_module_name unit.name) (list_all is_module_name (map (λ unit. unit.name) units)) v).0
entry_named (unit ∷ units) (suc k) v h = entry_named units k (and_parts (is_module_name unit.name) (list_all is_module_name (map (λ unit. unit.name) units)) v).1 h

main_fits : (names : List Text) (entry : Text) → list_all is_module_name names ≡ true → is_module_name entry ≡ true → spells_main (text_of_lines (main_of names entry)) names entry ≡ true
main_fits names entry v w =
    ap (λ o. both_fit o o) (main_spelled names entry v w) ∙ self_fit (main_tokens names entry) (main_plain names entry)

pub text_reads : (whole : CrateTree) → valid_crate whole ≡ true → ReadsAs (text_of whole) whole
text_reads whole v =
    let parts = and_parts (valid_names (module_names whole) && list_all (λ unit. valid_items unit.items) whole.modules) (has_entry (slice_get whole.modules whole.entry)) v in
    let first = and_parts (valid_names (module_names whole)) (list_all (λ unit. valid_items unit.items) whole.modules) parts.0 in
    let names = and_parts (valid_count (length (module_names whole)) && list_all is_module_name (module_names whole)) (all_differ (module_names whole)) first.0 in
    let plain = (and_parts (valid_count (length (module_names whole))) (list_all is_module_name (module_names whole)) names.0).1 in
    record {
      valid = v;
      count = length-append (map module_file whole.modules) (main_file whole ∷ cargo_file ∷ []) ∙ ap (λ n. n + 2) (length-map whole.modules module_file);
      cargo = ap (λ l. holds_once l spells_cargo) (cargo_once whole) ∙ cargo_spelled;
      main = ap (λ l. holds_once l (λ text. spells_main text (module_names whole) (entry_name whole))) (main_once whole plain)
          ∙ main_fits (module_names whole) (entry_name whole) plain (entry_named whole.modules whole.entry plain parts.1);
      modules = each_spelled [] whole.modules (main_file whole ∷ cargo_file ∷ []) names.1 plain first.1 (no_other whole);
    }
