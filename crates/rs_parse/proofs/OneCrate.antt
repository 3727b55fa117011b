-- Two crates that the same files read as are equal.
use Rattle.std.proofs.Common.{◌≡◌, ℕ, zero, suc, Bool, true, false, not, ◌&&◌, List, [], ◌∷◌, ◌++◌, map, length, drop, codes, bytes_eq, Some, refl, sym, ap, ◌∙◌, slice_get, if◌then◌else◌}
use Rattle.std.specs.List.{list_all, list_any}
use Rattle.std.proofs.lemmas.Bool.{and_parts}
use Rattle.shelf.specs.declared.file.File.{File}
use Rattle.rs_text.specs.Lines.{module_names, entry_name, name_or_empty}
use Rattle.rs_text.specs.Names.{is_module_name}
use Rattle.rs_text.specs.Reads.{both_fit, spells, spells_main, texts_named, holds_once, spells_module, ReadsAs}
use Rattle.rs_text.specs.Spelling.{module_tokens}
use Rattle.rs_text.specs.Text.{module_path, main_path}
use Rattle.rs_text.specs.Tokens.{Word, Mark, tokens_in}
use Rattle.rs_text.specs.Tree.{ModuleTree, CrateTree, ItemTree}
use Rattle.rs_text.specs.Valid.{all_differ, valid_items, valid_names, valid_count, has_entry, valid_crate}
use Rattle.rs_parse.proofs.CrateText.{entry_named, or_parts}
use Rattle.rs_parse.proofs.Lexing.{Text, Toks, same_self}
use Rattle.rs_parse.proofs.MainText.{main_tokens, main_plain, main_spelled, plain_tokens, declared, begun, left, head_of_main, allowed}
use Rattle.rs_parse.proofs.ModuleLaws.{one_module}
use Rattle.rs_parse.proofs.NameSigns.{not_true}

-- ---- what a valid crate is made of

pub record Parts (whole : CrateTree) : Type 0 where
  pub names : list_all is_module_name (module_names whole) ≡ true
  pub differ : all_differ (module_names whole) ≡ true
  pub items : list_all (λ unit. valid_items unit.items) whole.modules ≡ true
  pub entry : has_entry (slice_get whole.modules whole.entry) ≡ true

pub parts_of : (whole : CrateTree) → valid_crate whole ≡ true → Parts whole
parts_of whole v =
    let parts = and_parts (valid_names (module_names whole) && list_all (λ unit. valid_items unit.items) whole.modules) (has_entry (slice_get whole.modules whole.entry)) v in
    let first = and_parts (valid_names (module_names whole)) (list_all (λ unit. valid_items unit.items) whole.modules) parts.0 in
    let names = and_parts (valid_count (length (module_names whole)) && list_all is_module_name (module_names whole)) (all_differ (module_names whole)) first.0 in
    record {
      names = (and_parts (valid_count (length (module_names whole))) (list_all is_module_name (module_names whole)) names.0).1;
      differ = names.1;
      items = first.1;
      entry = parts.1;
    }

-- ---- one text

record BothHold (f g : Text → Bool) : Type 0 where
  text : Text
  first : f text ≡ true
  second : g text ≡ true

both_hold : (texts : List Text) (f g : Text → Bool) → holds_once texts f ≡ true → holds_once texts g ≡ true → BothHold f g
both_hold [] f g a b = cc
both_hold (t ∷ []) f g a b = record { text = t; first = a; second = b }
both_hold (t ∷ u ∷ others) f g a b = cc

-- ---- `main.rs`

pub main_is : (text : Text) (names : List Text) (entry : Text) → list_all is_module_name names ≡ true → is_module_name entry ≡ true → spells_main text names entry ≡ true →
    tokens_in text ≡ Some (main_tokens names entry)
main_is text names entry v w h =
    plain_tokens (tokens_in text) (main_tokens names entry) (main_plain names entry) (ap (λ o. both_fit (tokens_in text) o) (sym (main_spelled names entry v w)) ∙ h)

-- the modules that tokens declare
abbrev declarations : Toks → List Text
declarations (Word w ∷ Word x ∷ Mark m ∷ ts) = if bytes_eq w (codes "mod") then x ∷ declarations ts else []
declarations _ = []

declarations_are : (names : List Text) (rest : Toks) → declarations (declared names ++ (head_of_main ++ rest)) ≡ names
declarations_are [] rest = refl
declarations_are (x ∷ xs) rest = ap (λ l. x ∷ l) (declarations_are xs rest)

some_same : (x y : Toks) → Some x ≡ Some y → x ≡ y
some_same x y h = cc

abbrev behind_declared : List Text → Text → Toks
behind_declared names entry = (Word (codes "unsafe") ∷ Mark (codes "{") ∷ []) ++ (begun names ++ (left entry ++ ((Mark (codes "}") ∷ []) ++ (Mark (codes "}") ∷ []))))

pub names_same : (ns ms : List Text) (e f : Text) → main_tokens ns e ≡ main_tokens ms f → ns ≡ ms
names_same ns ms e f h =
    sym (declarations_are ns (behind_declared ns e)) ∙ ap (λ (l : Toks). declarations (drop 10 l)) h ∙ declarations_are ms (behind_declared ms f)

abbrev rest_of : Toks → Toks
rest_of [] = []
rest_of (t ∷ ts) = ts

cancel_left : (xs ys zs : Toks) → xs ++ ys ≡ xs ++ zs → ys ≡ zs
cancel_left [] ys zs h = h
cancel_left (x ∷ xs) ys zs h = cancel_left xs ys zs (ap (λ (l : Toks). rest_of l) h)

abbrev word_at : Toks → Text
word_at (Word w ∷ ts) = w
word_at _ = []

pub entry_same : (ns : List Text) (e f : Text) → main_tokens ns e ≡ main_tokens ns f → e ≡ f
entry_same ns e f h =
    let one = cancel_left allowed _ _ h in
    let two = cancel_left (declared ns) _ _ one in
    let three = cancel_left head_of_main _ _ two in
    let four = cancel_left (Word (codes "unsafe") ∷ Mark (codes "{") ∷ []) _ _ three in
    let five = cancel_left (begun ns) _ _ four in
    ap (λ (l : Toks). word_at (drop 8 l)) five

-- ---- the number of the entry

abbrev pub name_at : List ModuleTree → ℕ → Text
name_at units k = name_or_empty (slice_get units k)

not_among : (n : Text) (units : List ModuleTree) (k : ℕ) → list_any (λ other. bytes_eq other n) (map (λ unit. unit.name) units) ≡ false → has_entry (slice_get units k) ≡ true →
    bytes_eq (name_at units k) n ≡ false
not_among n [] k h e = cc
not_among n (unit ∷ units) zero h e = (or_parts (bytes_eq unit.name n) (list_any (λ other. bytes_eq other n) (map (λ unit. unit.name) units)) h).0
not_among n (unit ∷ units) (suc k) h e = not_among n units k (or_parts (bytes_eq unit.name n) (list_any (λ other. bytes_eq other n) (map (λ unit. unit.name) units)) h).1 e

clash : (b : Bool) → b ≡ true → b ≡ false → ⊥
clash true h g = cc
clash false h g = cc

abbrev first_of_names : List Text → Text
first_of_names [] = []
first_of_names (n ∷ ns) = n

abbrev other_names : List Text → List Text
other_names [] = []
other_names (n ∷ ns) = ns

head_name : (n m : Text) (ns ms : List Text) → n ∷ ns ≡ m ∷ ms → (n ≡ m) × (ns ≡ ms)
head_name n m ns ms h = (ap (λ (l : List Text). first_of_names l) h, ap (λ (l : List Text). other_names l) h)

pub number_same : (units others : List ModuleTree) (k l : ℕ) → map (λ unit. unit.name) units ≡ map (λ unit. unit.name) others → all_differ (map (λ unit. unit.name) units) ≡ true →
    has_entry (slice_get units k) ≡ true → has_entry (slice_get others l) ≡ true → name_at units k ≡ name_at others l → k ≡ l
number_same [] others k l h d e f same = cc
number_same (u ∷ units) [] k l h d e f same = cc
number_same (u ∷ units) (w ∷ others) zero zero h d e f same = refl
number_same (u ∷ units) (w ∷ others) zero (suc l) h d e f same =
    let heads = head_name u.name w.name (map (λ unit. unit.name) units) (map (λ unit. unit.name) others) h in
    let none = not_true _ (and_parts (not (list_any (λ other. bytes_eq other u.name) (map (λ unit. unit.name) units))) (all_differ (map (λ unit. unit.name) units)) d).0 in
    let here = not_among u.name others l (ap (λ ns. list_any (λ other. bytes_eq other u.name) ns) (sym heads.1) ∙ none) f in
    absurd (clash (bytes_eq (name_at others l) u.name) (ap (λ n. bytes_eq n u.name) (sym same) ∙ same_self u.name) here)
number_same (u ∷ units) (w ∷ others) (suc k) zero h d e f same =
    let heads = head_name u.name w.name (map (λ unit. unit.name) units) (map (λ unit. unit.name) others) h in
    let none = not_true _ (and_parts (not (list_any (λ other. bytes_eq other u.name) (map (λ unit. unit.name) units))) (all_differ (map (λ unit. unit.name) units)) d).0 in
    let here = not_among u.name units k none e in
    absurd (clash (bytes_eq (name_at units k) u.name) (ap (λ n. bytes_eq n u.name) (same ∙ sym heads.0) ∙ same_self u.name) here)
number_same (u ∷ units) (w ∷ others) (suc k) (suc l) h d e f same =
    let heads = head_name u.name w.name (map (λ unit. unit.name) units) (map (λ unit. unit.name) others) h in
    let differ = (and_parts (not (list_any (λ other. bytes_eq other u.name) (map (λ unit. unit.name) units))) (all_differ (map (λ unit. unit.name) units)) d).1 in
    ap suc (number_same units others k l heads.1 differ e f same)

-- ---- modules

abbrev module_of : Text → List ItemTree → ModuleTree
module_of name items = record { name = name; items = items }

module_same : (m n : Text) (xs ys : List ItemTree) → m ≡ n → xs ≡ ys → module_of m xs ≡ module_of n ys
module_same m n xs ys h g = ap (λ k. module_of k xs) h ∙ ap (λ l. module_of n l) g

modules_same : (files : List File) (units others : List ModuleTree) → map (λ unit. unit.name) units ≡ map (λ unit. unit.name) others →
    list_all (λ unit. valid_items unit.items) units ≡ true → list_all (λ unit. valid_items unit.items) others ≡ true →
    list_all (spells_module files) units ≡ true → list_all (spells_module files) others ≡ true → units ≡ others
modules_same files [] [] h v w s t = refl
modules_same files [] (o ∷ others) h v w s t = cc
modules_same files (u ∷ units) [] h v w s t = cc
modules_same files (u ∷ units) (o ∷ others) h v w s t =
    let heads = head_name u.name o.name (map (λ unit. unit.name) units) (map (λ unit. unit.name) others) h in
    let vs = and_parts (valid_items u.items) (list_all (λ unit. valid_items unit.items) units) v in
    let ws = and_parts (valid_items o.items) (list_all (λ unit. valid_items unit.items) others) w in
    let ss = and_parts (spells_module files u) (list_all (spells_module files) units) s in
    let ts = and_parts (spells_module files o) (list_all (spells_module files) others) t in
    let other : holds_once (texts_named (module_path u.name) files) (λ text. spells text (module_tokens o)) ≡ true =
    ap (λ (n : Text). holds_once (texts_named (module_path n) files) (λ text. spells text (module_tokens o))) heads.0 ∙ ts.0 in
    let both : BothHold (λ text. spells text (module_tokens u)) (λ text. spells text (module_tokens o)) =
    both_hold (texts_named (module_path u.name) files) (λ text. spells text (module_tokens u)) (λ text. spells text (module_tokens o)) ss.0 other in
    let items = one_module u o both.text vs.0 ws.0 both.first both.second in
    ap (λ m. m ∷ units) (module_same u.name o.name u.items o.items heads.0 items) ∙ ap (λ l. o ∷ l) (modules_same files units others heads.1 vs.1 ws.1 ss.1 ts.1)

-- ---- crates

abbrev crate_of : List ModuleTree → ℕ → CrateTree
crate_of modules entry = record { modules = modules; entry = entry }

crate_same : (ms ns : List ModuleTree) (k l : ℕ) → ms ≡ ns → k ≡ l → crate_of ms k ≡ crate_of ns l
crate_same ms ns k l h g = ap (λ m. crate_of m k) h ∙ ap (λ n. crate_of ns n) g

pub one_crate : (files : List File) (one other : CrateTree) → ReadsAs files one → ReadsAs files other → one ≡ other
one_crate files one other a b =
    let p = parts_of one a.valid in
    let q = parts_of other b.valid in
    let entry_p = entry_named one.modules one.entry p.names p.entry in
    let entry_q = entry_named other.modules other.entry q.names q.entry in
    let main : BothHold (λ text. spells_main text (module_names one) (entry_name one)) (λ text. spells_main text (module_names other) (entry_name other)) =
    both_hold (texts_named main_path files) (λ text. spells_main text (module_names one) (entry_name one)) (λ text. spells_main text (module_names other) (entry_name other)) a.main b.main in
    let tokens : main_tokens (module_names one) (entry_name one) ≡ main_tokens (module_names other) (entry_name other) =
    some_same _ _ (sym (main_is main.text (module_names one) (entry_name one) p.names entry_p main.first) ∙ main_is main.text (module_names other) (entry_name other) q.names entry_q main.second) in
    let names = names_same (module_names one) (module_names other) (entry_name one) (entry_name other) tokens in
    let entries = entry_same (module_names one) (entry_name one) (entry_name other) (tokens ∙ ap (λ (ns : List Text). main_tokens ns (entry_name other)) (sym names)) in
    crate_same one.modules other.modules one.entry other.entry
    (modules_same files one.modules other.modules names p.items q.items a.modules b.modules)
    (number_same one.modules other.modules one.entry other.entry names p.differ p.entry q.entry entries)
