-- What is kept of fields.
use Rattle.std.proofs.Common.{arith, ◌≡◌, ◌<◌, ◌≤◌, ◌+◌, ℕ, zero, suc, ◌==◌, ◌⊎◌, inl, inr, Bool, true, false, if◌then◌else◌, List, [], ◌∷◌, ◌++◌, length, drop, get_or, flat_map, append_assoc, Option, Some, None, slice_get, refl, sym, ap, ◌∙◌, OnOk, Result as Answer, Ok, Err}
use Rattle.std.proofs.Math.Seq.{drop-cons}
use Rattle.std.proofs.lemmas.Bool.{cases_lt}
use Rattle.std.proofs.lemmas.Bool.Decides.{nat_tests}
use Rattle.std.proofs.lemmas.List.{append-nil}
use Rattle.std.proofs.lemmas.Option.{slice_get_past}
use Rattle.std.specs.Option.{option_flatten}
use Rattle.cr_base.specs.declared.layout.Spot.{Spot}
use Rattle.cx_core.specs.Layouts.{CRow, layouts_of, row_at}
use Rattle.cx_core.specs.Trees.{CDeclaredOrder, CRecord}
use Rattle.rs_items.specs.Known.{Knows, MemberField, Names}
use Rattle.rs_items.specs.Records.{FieldsWalk, fields_walk}
use Rattle.rs_items.specs.declared.known.Named.{Named}
use Rattle.rs_items.specs.declared.known.Named.TheVariants.{Object, Function, BareFunction, Record, Enum, Temporary}
use Rattle.rs_text.specs.Tree.{ItemTree}
use Rattle.whole_given.specs.Told.{first_of}
use Rattle.whole_items.specs.Items.{record_items, record_items_of}
use Rattle.whole_known.specs.Stages.{HasTypes, IsBase}
use Rattle.whole_names.specs.Keys.{order_or_none}
use Rattle.whole_names.specs.Kept.{NamedProgram, record_unit}
use Rattle.whole_records.proofs.Walks.{walk_is}
use Rattle.whole_records.specs.Fields.{Fields, HasFields, KeepsNames, Writes, WritesAll, fields_at, fields_of_record, fields_put, fields_with_row, put_fields, record_in, records_behind}

pub on_both : {A : Type 0} {E : Type 0} {P Q R : Type 0} (result : Answer A E) → (P → Q → R) → OnOk result P → OnOk result Q → OnOk result R
on_both (Ok one) f p q = f p q
on_both (Err why) f p q = tt

pub flat_there : {A : Type 0} (found : Option (Option A)) (one : A) → option_flatten found ≡ Some one → found ≡ Some (Some one)
flat_there None one e = cc
flat_there (Some None) one e = cc
flat_there (Some (Some other)) one e = ap Some e

-- ---- one structure or union

module _ (whole : NamedProgram) (known : Knows) (has : HasTypes whole known) (number : ℕ) (one : CRecord) (row : CRow) (there : record_in whole number ≡ Some one)
    (laid : row_at (layouts_of whole.program.types) number ≡ Some row) where
  pub fields_there : (spots : List Spot) → spots ≡ row.spots → Some (fields_walk known one spots).members ≡ fields_at whole number
  fields_there spots same =
      ap (λ (those : List Spot). Some (fields_walk known one those).members) same
      ∙ ap (λ (walk : FieldsWalk). Some walk.members) (walk_is whole (record_unit whole number) known has one row.spots)
      ∙ sym (ap (λ (found : Option CRecord). fields_of_record whole number found) there ∙ ap (λ (found : Option CRow). fields_with_row whole number one found) laid)

some_first : {A : Type 0} (entry old : Option A) (one : A) → Some one ≡ entry → Some one ≡ first_of entry old
some_first None old one e = cc
some_first (Some other) old one e = e

pub put_there : (whole : NamedProgram) (number held other : ℕ) (fields : List MemberField) (old : Fields) (new : Option (List MemberField)) → held ≡ number → Some fields ≡ fields_at whole number →
    new ≡ (if other == held then Some fields else old other) → new ≡ put_fields whole number old other
put_there whole number held other fields old new same entry e =
    e ∙ ap (λ (n : ℕ). if other == n then Some fields else old other) same
    ∙ ap (λ (found : Option (List MemberField)). if other == number then found else old other) (some_first (fields_at whole number) (old other) fields entry)

-- ---- what stays

pub keeps_more : {a b c : Names} → KeepsNames a b → KeepsNames b c → KeepsNames a c
keeps_more one other = record {
  same_known = other.same_known ∙ one.same_known;
  same_items = other.same_items ∙ one.same_items;
  same_own = other.same_own ∙ one.same_own;
  same_bits = other.same_bits ∙ one.same_bits;
}

pub types_keep : (whole : NamedProgram) (before after : Names) → KeepsNames before after → HasTypes whole before.known → HasTypes whole after.known
types_keep whole before after keeps has = record {
  has_records = λ n. ap (λ (known : Knows). known (Record n)) keeps.same_known ∙ has.has_records n;
  has_enums = λ n. ap (λ (known : Knows). known (Enum n)) keeps.same_known ∙ has.has_enums n;
}

pub base_keeps : (whole : NamedProgram) (before after : Names) → KeepsNames before after → IsBase whole before → IsBase whole after
base_keeps whole before after keeps base =
    let same : (one : Named) → after.known one ≡ before.known one = λ one. ap (λ (known : Knows). known one) keeps.same_known in
    record {
      types = types_keep whole before after keeps base.types;
      objects = λ n. same (Object n) ∙ base.objects n;
      functions = λ n one there. same (Function n) ∙ base.functions n one there;
      nothing_else = λ n none outer. same (Function n) ∙ base.nothing_else n none outer;
      no_bares = λ n. same (BareFunction n) ∙ base.no_bares n;
      no_temporaries = λ n. same (Temporary n) ∙ base.no_temporaries n;
      units_there = base.units_there;
      has_bits_is = keeps.same_bits ∙ base.has_bits_is;
    }

-- ---- all of them

module _ (whole : NamedProgram) (fields : Fields) where
  past_by : (count n : ℕ) (t : Bool) → (n == count) ≡ t → count < n → (before : Option (List MemberField)) → before ≡ fields n →
      (if t then first_of (fields_at whole count) before else before) ≡ fields n
  past_by count n true e past before is = absurd (let equal : n ≡ count = grind (arith, nat_tests, e) in omega (arith, equal, past))
  past_by count n false e past before is = is

  fields_past : (count n : ℕ) → count ≤ n → fields_put whole count fields n ≡ fields n
  fields_past zero n past = refl
  fields_past (suc count) n past = past_by count n (n == count) refl (omega (arith, past)) (fields_put whole count fields n) (fields_past count n (omega (arith, past)))

  below_by : (count n : ℕ) (t : Bool) → (n == count) ≡ t → n < suc count → (before : Option (List MemberField)) → (count ≤ n → before ≡ fields n) →
      (n < count → before ≡ first_of (fields_at whole n) (fields n)) → (if t then first_of (fields_at whole count) before else before) ≡ first_of (fields_at whole n) (fields n)
  below_by count n true e low before past below =
      let equal : n ≡ count = grind (arith, nat_tests, e) in
      ap (λ found. first_of (fields_at whole count) found) (past (omega (arith, equal))) ∙ ap (λ (m : ℕ). first_of (fields_at whole m) (fields n)) (sym equal)
  below_by count n false e low before past below = below (let apart : n ≡ count → ⊥ = λ f. grind (arith, nat_tests, e, f) in omega (arith, low, apart))

  fields_below : (count n : ℕ) → n < count → fields_put whole count fields n ≡ first_of (fields_at whole n) (fields n)
  fields_below zero n low = absurd (omega (arith, low))
  fields_below (suc count) n low = below_by count n (n == count) refl low (fields_put whole count fields n) (fields_past count n) (fields_below count n)

  no_fields : (n : ℕ) → length whole.program.types.records ≤ n → None ≡ fields_at whole n
  no_fields n far = sym (ap (λ (found : Option (Option CRecord)). fields_of_record whole n (option_flatten found)) (slice_get_past whole.program.types.records n far))

  nothing_behind : {A : Type 0} (found : Option A) → first_of found None ≡ found
  nothing_behind None = refl
  nothing_behind (Some one) = refl

  all_by : (n : ℕ) → fields n ≡ None → (n < length whole.program.types.records) ⊎ (length whole.program.types.records ≤ n) →
      fields_put whole (length whole.program.types.records) fields n ≡ fields_at whole n
  all_by n none (inl low) =
      fields_below (length whole.program.types.records) n low ∙ ap (λ found. first_of (fields_at whole n) found) none ∙ nothing_behind (fields_at whole n)
  all_by n none (inr far) = fields_past (length whole.program.types.records) n far ∙ none ∙ no_fields n far

pub fields_all : (whole : NamedProgram) (before after : Names) (count : ℕ) → ((n : ℕ) → before.fields n ≡ None) → count ≡ length whole.program.types.records → WritesAll whole count before after →
    HasFields whole after
fields_all whole before after count none same writes = λ n.
    writes.fields_are n ∙ ap (λ (k : ℕ). fields_put whole k before.fields n) same
    ∙ all_by whole before.fields n (none n) (cases_lt n (length whole.program.types.records))

put_alike : (whole : NamedProgram) (number : ℕ) (one other : Fields) (n : ℕ) → one n ≡ other n → put_fields whole number one n ≡ put_fields whole number other n
put_alike whole number one other n e = ap (λ (found : Option (List MemberField)). if n == number then first_of (fields_at whole number) found else found) e

pub writes_more : (whole : NamedProgram) (count : ℕ) (before old new : Names) → WritesAll whole count before old → Writes whole count old new → WritesAll whole (suc count) before new
writes_more whole count before old new all one = record {
  fields_are = λ n. one.fields_are n ∙ put_alike whole count old.fields (fields_put whole count before.fields) n (all.fields_are n);
  rest = keeps_more all.rest one.rest;
}

-- ---- once more

same_first : {A : Type 0} (found : Option A) → first_of found found ≡ found
same_first None = refl
same_first (Some one) = refl

again_by : (whole : NamedProgram) (number n : ℕ) (old : Option (List MemberField)) (t : Bool) → (n == number) ≡ t → old ≡ fields_at whole n →
    (if t then first_of (fields_at whole number) old else old) ≡ fields_at whole n
again_by whole number n old true is e =
    let same : number ≡ n = sym (let f : n ≡ number = grind (arith, nat_tests, is) in f) in
    ap (λ (k : ℕ). first_of (fields_at whole k) old) same ∙ ap (λ found. first_of (fields_at whole n) found) e ∙ same_first (fields_at whole n)
again_by whole number n old false is e = e

pub fields_again : (whole : NamedProgram) (number : ℕ) (before after : Names) → HasFields whole before → Writes whole number before after → HasFields whole after
fields_again whole number before after has writes = λ n. writes.fields_are n ∙ again_by whole number n (before.fields n) (n == number) refl (has n)

-- ---- items

records_are : (whole : NamedProgram) (unit : ℕ) (numbers : List ℕ) (before : List ItemTree) →
    records_behind whole unit numbers before ≡ before ++ flat_map (λ (number : ℕ). record_items_of whole unit number (record_in whole number)) numbers
records_are whole unit [] before = sym (append-nil before)
records_are whole unit (number ∷ numbers) before =
    let here = record_items_of whole unit number (record_in whole number) in
    records_are whole unit numbers (before ++ here) ∙ append_assoc before here (flat_map (λ (n : ℕ). record_items_of whole unit n (record_in whole n)) numbers)

pub items_are : (whole : NamedProgram) (unit : ℕ) (order : CDeclaredOrder) (numbers : List ℕ) (none items : List ItemTree) → slice_get whole.program.orders unit ≡ Some order → numbers ≡ order.completed →
    none ≡ [] → items ≡ records_behind whole unit numbers none → items ≡ record_items whole unit
items_are whole unit order numbers none items there same empty e =
    e ∙ records_are whole unit numbers none
    ∙ ap (λ (list : List ItemTree). list ++ flat_map (λ (number : ℕ). record_items_of whole unit number (record_in whole number)) numbers) empty
    ∙ ap (λ (list : List ℕ). flat_map (λ (number : ℕ). record_items_of whole unit number (record_in whole number)) list)
    (same ∙ sym (ap (λ (found : Option CDeclaredOrder). (order_or_none found).completed) there))

pub step_at : {A : Type 0} (list : List A) (index : ℕ) (other : A) → index < length list → drop index list ≡ get_or list index other ∷ drop (index + 1) list
step_at list index other low =
    let next : suc index ≡ index + 1 = omega arith in
    drop-cons list index other low ∙ ap (λ (n : ℕ). get_or list index other ∷ drop n list) next
