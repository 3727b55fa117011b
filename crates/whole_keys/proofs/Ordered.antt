-- The keys that were put one behind the other are those of the module.
use Rattle.std.proofs.Common.{◌≡◌, ℕ, ◌==◌, ◌&&◌, ◌||◌, not, Bool, true, false, if◌then◌else◌, List, [], ◌∷◌, ◌++◌, map, filter, append_assoc, codes, Option, None, option_map, slice_get, refl, sym, ap, ◌∙◌}
use Rattle.std.proofs.lemmas.List.{append-nil}
use Rattle.std.proofs.lemmas.Option.{slice_get-map}
use Rattle.std.specs.List.{list_any}
use Rattle.cx_core.specs.BitFields.{has_bit_fields}
use Rattle.cx_core.specs.Trees.{CDeclaredOrder, CKey, CObject, CFun, COuter, CProgram}
use Rattle.cx_core.specs.Views.{view_order, view_program}
use Rattle.cx_core.specs.declared.program.Parts.{Parts}
use Rattle.whole_keys.specs.Kept.{put_one, put_where, object_key, function_key, number_of, entry_key, is_entry_of, has_function, calls_malloc_in, needs_calloc_in, put_statics, put_declared}
use Rattle.whole_keys.specs.Kinds.{is_static}
use Rattle.whole_keys.specs.declared.entries.StaticKind.TheVariants.{OfBlock, Text, Literal}
use Rattle.whole_names.specs.Calls.{NamedCall}
use Rattle.whole_names.specs.Keys.{NameKey, a_function, an_object, a_record, a_calloc, a_bare_function, bare_functions, calls_malloc, calls_of, entries_of, is_bare_too, is_block_static, is_key_outer, is_named_in, is_outer_named, is_static_literal, is_text_of, key_of, module_keys, needs_calloc, objects_that, order_of, order_or_none, records_of, things_of}

module _ {A B : Type 0} (test : A → Bool) (key : A → B) where
  one_more : (passes : Bool) (one : A) (others : List A) (before : List B) →
      (if passes then before ++ key one ∷ [] else before) ++ map key others ≡ before ++ map key (if passes then one ∷ others else others)
  one_more true one others before = append_assoc before (key one ∷ []) (map key others)
  one_more false one others before = refl

  -- those that pass a test stand behind the others
  pub kept_where : (list : List A) (before : List B) → put_where test key list before ≡ before ++ map key (filter test list)
  kept_where [] before = sym (append-nil before)
  kept_where (one ∷ others) before = kept_where others (put_one test key one before) ∙ one_more (test one) one (filter test others) before

pub things_are : (program : CProgram) (unit : ℕ) (before keys : List NameKey) → before ≡ [] →
    keys ≡ put_where (is_named_in program unit) key_of (order_of program unit).things before → keys ≡ things_of program unit
things_are program unit before keys empty e =
    e ∙ kept_where (is_named_in program unit) key_of (order_of program unit).things before
    ∙ ap (λ (list : List NameKey). list ++ things_of program unit) empty

pub entries_are : (program : CProgram) (unit : ℕ) (before keys : List NameKey) → before ≡ [] → keys ≡ put_where (is_entry_of unit) entry_key program.functions before →
    keys ≡ entries_of program unit
entries_are program unit before keys empty e =
    e ∙ kept_where (is_entry_of unit) entry_key program.functions before ∙ ap (λ (list : List NameKey). list ++ entries_of program unit) empty

pub none_completed : (parts : Parts) (unit : ℕ) (before : List NameKey) → slice_get parts.orders unit ≡ None → before ≡ before ++ records_of (view_program parts) unit
none_completed parts unit before e =
    sym (ap (λ (found : Option CDeclaredOrder). before ++ map a_record (order_or_none found).completed) (slice_get-map view_order parts.orders unit ∙ ap (option_map view_order) e)
    ∙ append-nil before)

-- ---- `calloc`

numbers_head : (name : List ℕ) (number : ℕ) (one : COuter) (others : List COuter) (named same : Bool) → (one.function == number) ≡ same →
    list_any (λ (n : ℕ). n == number) (map number_of (if named then one ∷ others else others)) ≡ (same && named || list_any (λ (n : ℕ). n == number) (map number_of others))
numbers_head name number one others true true e = ap (λ t. t || list_any (λ (n : ℕ). n == number) (map number_of others)) e
numbers_head name number one others true false e = ap (λ t. t || list_any (λ (n : ℕ). n == number) (map number_of others)) e
numbers_head name number one others false true e = refl
numbers_head name number one others false false e = refl

numbers_any : (name : List ℕ) (number : ℕ) (externals : List COuter) →
    list_any (λ (n : ℕ). n == number) (map number_of (filter (is_outer_named name) externals)) ≡ list_any (λ (one : COuter). one.function == number && is_outer_named name one) externals
numbers_any name number [] = refl
numbers_any name number (one ∷ others) =
    numbers_head name number one (filter (is_outer_named name) others) (is_outer_named name one) (one.function == number) refl
    ∙ ap (λ t. (one.function == number) && is_outer_named name one || t) (numbers_any name number others)

-- a key is that of an external function with this name
pub named_key : (program : CProgram) (name : List ℕ) (key : NameKey) → has_function (put_where (is_outer_named name) number_of program.externals []) key ≡ is_key_outer program name key
named_key program name (a_function number) =
    ap (λ (numbers : List ℕ). list_any (λ (n : ℕ). n == number) numbers) (kept_where (is_outer_named name) number_of program.externals [])
    ∙ numbers_any name number program.externals
named_key program name (an_object number) = refl
named_key program name (a_record number) = refl
named_key program name a_calloc = refl
named_key program name (a_bare_function number) = refl

some_named : (program : CProgram) (name : List ℕ) (keys : List NameKey) →
    list_any (has_function (put_where (is_outer_named name) number_of program.externals [])) keys ≡ list_any (is_key_outer program name) keys
some_named program name [] = refl
some_named program name (key ∷ keys) =
    ap (λ t. t || list_any (has_function (put_where (is_outer_named name) number_of program.externals [])) keys) (named_key program name key)
    ∙ ap (λ t. is_key_outer program name key || t) (some_named program name keys)

needs_is : (program : CProgram) (unit : ℕ) → needs_calloc_in program (calls_of program unit) (things_of program unit) ≡ needs_calloc program unit
needs_is program unit =
    ap (λ t. has_bit_fields program.types && calls_malloc program unit && not t) (some_named program (codes "calloc") (things_of program unit))

-- ---- all of them

statics_are : (program : CProgram) (unit : ℕ) (before : List NameKey) → put_statics program unit before ≡
    before ++ (objects_that (is_block_static unit) program ++ (objects_that (is_text_of unit) program ++ objects_that (is_static_literal unit) program))
statics_are program unit before =
    let one = put_where (is_static OfBlock unit) object_key program.objects before in
    let two = put_where (is_static Text unit) object_key program.objects one in
    let a = objects_that (is_block_static unit) program in
    let b = objects_that (is_text_of unit) program in
    let c = objects_that (is_static_literal unit) program in
    kept_where (is_static Literal unit) object_key program.objects two
    ∙ ap (λ (list : List NameKey). list ++ c) (kept_where (is_static Text unit) object_key program.objects one)
    ∙ ap (λ (list : List NameKey). (list ++ b) ++ c) (kept_where (is_static OfBlock unit) object_key program.objects before)
    ∙ append_assoc (before ++ a) b c ∙ append_assoc before a (b ++ c)

calloc_put : (needs : Bool) (before others : List NameKey) → (if needs then before ++ a_calloc ∷ [] else before) ++ others ≡ before ++ ((if needs then a_calloc ∷ [] else []) ++ others)
calloc_put true before others = append_assoc before (a_calloc ∷ []) others
calloc_put false before others = refl

declared_are : (program : CProgram) (unit : ℕ) (needs : Bool) (before : List NameKey) → put_declared program (calls_of program unit) needs before ≡
    before ++ ((if needs then a_calloc ∷ [] else []) ++ bare_functions program unit)
declared_are program unit needs before =
    kept_where (is_bare_too (calls_of program unit)) function_key program.externals (if needs then before ++ a_calloc ∷ [] else before)
    ∙ calloc_put needs before (bare_functions program unit)

joined : (things records a b c behind : List NameKey) → ((things ++ records) ++ (a ++ (b ++ c))) ++ behind ≡ things ++ (records ++ (a ++ (b ++ (c ++ behind))))
joined things records a b c behind =
    append_assoc (things ++ records) (a ++ (b ++ c)) behind ∙ append_assoc things records ((a ++ (b ++ c)) ++ behind)
    ∙ ap (λ (list : List NameKey). things ++ (records ++ list)) (append_assoc a (b ++ c) behind ∙ ap (λ (list : List NameKey). a ++ list) (append_assoc b c behind))

all_keys : (program : CProgram) (unit : ℕ) (needs : Bool) → needs ≡ needs_calloc program unit →
    put_declared program (calls_of program unit) needs (put_statics program unit (things_of program unit ++ records_of program unit)) ≡ module_keys program unit
all_keys program unit needs e =
    declared_are program unit needs (put_statics program unit (things_of program unit ++ records_of program unit))
    ∙ ap (λ (list : List NameKey). list ++ ((if needs then a_calloc ∷ [] else []) ++ bare_functions program unit)) (statics_are program unit (things_of program unit ++ records_of program unit))
    ∙ joined (things_of program unit) (records_of program unit) (objects_that (is_block_static unit) program) (objects_that (is_text_of unit) program)
    (objects_that (is_static_literal unit) program) ((if needs then a_calloc ∷ [] else []) ++ bare_functions program unit)
    ∙ ap (λ (t : Bool). things_of program unit ++ (records_of program unit ++ (objects_that (is_block_static unit) program ++ (objects_that (is_text_of unit) program
    ++ (objects_that (is_static_literal unit) program ++ ((if t then a_calloc ∷ [] else []) ++ bare_functions program unit)))))) e

pub keys_are : (program : CProgram) (unit : ℕ) (calls : List NamedCall) (needs : Bool) (one two three four : List NameKey) → calls ≡ calls_of program unit →
    one ≡ things_of program unit → needs ≡ needs_calloc_in program calls one → two ≡ one ++ records_of program unit → three ≡ put_statics program unit two →
    four ≡ put_declared program calls needs three → four ≡ module_keys program unit
keys_are program unit calls needs one two three four same first asked second third fourth =
    let needed = asked ∙ ap (λ (list : List NamedCall). needs_calloc_in program list one) same
    ∙ ap (λ (things : List NameKey). needs_calloc_in program (calls_of program unit) things) first ∙ needs_is program unit in
    fourth ∙ ap (λ (list : List NamedCall). put_declared program list needs three) same
    ∙ ap (λ (list : List NameKey). put_declared program (calls_of program unit) needs list)
    (third ∙ ap (λ (list : List NameKey). put_statics program unit list) (second ∙ ap (λ (list : List NameKey). list ++ records_of program unit) first))
    ∙ all_keys program unit needs needed
