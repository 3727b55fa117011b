-- The names that a function's keys get one behind the other.
use Rattle.std.proofs.Common.{arith, ◌≡◌, ◌<◌, ◌+◌, ◌^◌, ℕ, suc, List, [], ◌∷◌, ◌++◌, length, drop, get_or, append_assoc, refl, sym, ap, ◌∙◌, OnOk, Result as Answer, Ok, Err}
use Rattle.std.proofs.Math.Seq.{drop-cons}
use Rattle.std.proofs.lemmas.List.{append-nil, length-append}
use Rattle.cx_core.specs.Trees.{CProgram}
use Rattle.rs_items.specs.Known.{Names}
use Rattle.rs_items_sets.specs.Names.{rust_name}
use Rattle.rs_items_sets.specs.Sets.{TakenNames}
use Rattle.rs_items_sets.specs.declared.scope.NameScope.TheVariants.{Function}
use Rattle.whole_given.proofs.OwnNames.{own_free}
use Rattle.whole_given.specs.Told.{taken_more}
use Rattle.whole_known.specs.Modules.{item_names}
use Rattle.whole_locals.specs.Names.{TakesOwn, local_name, made_behind, named_local, own_behind, own_more}
use Rattle.whole_names.specs.FunctionNames.{LocalName, WantedLocal, locals_from}
use Rattle.whole_names.specs.Keys.{NameKey, module_keys}
use Rattle.whole_names.specs.ModuleNames.{GivenName, given_from, names_only, own_names, taken_names}

pub takes_more : (a b c : Names) (one other : List (List ℕ)) → TakesOwn a b one → TakesOwn b c other → TakesOwn a c other
takes_more a b c one other first second = record {
  taken_are = second.taken_are ∙ ap (λ (taken : TakenNames). record taken { own_names = other }) first.taken_are;
  same_known = second.same_known ∙ first.same_known;
  same_fields = second.same_fields ∙ first.same_fields;
  same_bits = second.same_bits ∙ first.same_bits;
}

pub step_on : {A : Type 0} (list : List A) (index : ℕ) (one : A) → index < length list → one ≡ get_or list index one → drop index list ≡ one ∷ drop (index + 1) list
step_on list index one low at =
    let next : suc index ≡ index + 1 = omega arith in
    drop-cons list index one low ∙ ap (λ first. first ∷ drop (suc index) list) (sym at) ∙ ap (λ (n : ℕ). one ∷ drop n list) next

-- they are those that the list gives, where the crate's own names are taken, too
made_are : (items own : List (List ℕ)) (made : List LocalName) (wanted : List WantedLocal) → length items + length own + length wanted + 5 < 2 ^ 64 →
    made_behind items own made wanted ≡ made ++ locals_from (own_names ++ (items ++ own)) wanted
made_are items own made [] few = sym (append-nil made)
made_are items own made (one ∷ others) few =
    let name = local_name items own one in
    let all = length-append items own in
    let longer : length (own ++ name ∷ []) ≡ length own + 1 = length-append own (name ∷ []) in
    let free : rust_name (own_names ++ (items ++ own)) Function one.wanted ≡ name = own_free (items ++ own) Function one.wanted tt (omega (arith, few, all)) in
    made_are items (own ++ name ∷ []) (made ++ record { key = one.key; name = name } ∷ []) others (omega (arith, few, longer))
    ∙ append_assoc made (record { key = one.key; name = name } ∷ []) (locals_from (own_names ++ (items ++ (own ++ name ∷ []))) others)
    ∙ ap (λ (taken : List (List ℕ)). made ++ record { key = one.key; name = name } ∷ locals_from (own_names ++ taken) others) (sym (append_assoc items own (name ∷ [])))
    ∙ ap (λ (n : List ℕ). made ++ record { key = one.key; name = n } ∷ locals_from ((own_names ++ (items ++ own)) ++ n ∷ []) others) (sym free)

given_long : (program : CProgram) (taken : List (List ℕ)) (keys : List NameKey) → length (names_only (given_from program taken keys)) ≡ length keys
given_long program taken [] = refl
given_long program taken (key ∷ keys) = ap suc (given_long program (taken_more program taken key) keys)

pub locals_are : (program : CProgram) (unit : ℕ) (keys : List NameKey) (items own : List (List ℕ)) (none made : List LocalName) (wanted : List WantedLocal) → keys ≡ module_keys program unit →
    items ≡ item_names program unit → own ≡ [] → none ≡ [] → length keys + length wanted + 5 < 2 ^ 64 → made ≡ made_behind items own none wanted →
    made ≡ locals_from (taken_names program unit) wanted
locals_are program unit keys items own none made wanted same_keys same_items empty no_made few e =
    let long : length items ≡ length keys =
    ap (λ (list : List (List ℕ)). length list) same_items ∙ given_long program own_names (module_keys program unit) ∙ ap (λ (list : List NameKey). length list) (sym same_keys) in
    let no_own : length own ≡ 0 = ap (λ (list : List (List ℕ)). length list) empty in
    e ∙ made_are items own none wanted (omega (arith, few, long, no_own))
    ∙ ap (λ (list : List LocalName). list ++ locals_from (own_names ++ (items ++ own)) wanted) no_made
    ∙ ap (λ (list : List (List ℕ)). locals_from (own_names ++ (items ++ list)) wanted) empty
    ∙ ap (λ (list : List (List ℕ)). locals_from (own_names ++ list) wanted) (append-nil items ∙ same_items)

pub anyway : {A : Type 0} {E : Type 0} {P : Type 0} (result : Answer A E) → P → OnOk result P
anyway (Ok one) p = p
anyway (Err why) p = tt

-- one name more
pub next_own : (items held own new : List (List ℕ)) (one : WantedLocal) (others list : List WantedLocal) → held ≡ items → new ≡ own ++ local_name held own one ∷ [] → list ≡ one ∷ others →
    own_behind items new others ≡ own_behind items own list
next_own items held own new one others list same e split =
    ap (λ (names : List (List ℕ)). own_behind items names others) (e ∙ ap (λ (those : List (List ℕ)). own ++ local_name those own one ∷ []) same)
    ∙ sym (ap (λ (wanted : List WantedLocal). own_behind items own wanted) split)

pub next_made : (items held own new : List (List ℕ)) (made new_made : List LocalName) (one : WantedLocal) (others list : List WantedLocal) → held ≡ items →
    new ≡ own ++ local_name held own one ∷ [] → new_made ≡ made ++ record { key = one.key; name = local_name held own one } ∷ [] → list ≡ one ∷ others →
    made_behind items new new_made others ≡ made_behind items own made list
next_made items held own new made new_made one others list same e f split =
    ap (λ (names : List (List ℕ)). made_behind items names new_made others) (e ∙ ap (λ (those : List (List ℕ)). own ++ local_name those own one ∷ []) same)
    ∙ ap (λ (names : List LocalName). made_behind items (own ++ local_name items own one ∷ []) names others)
    (f ∙ ap (λ (those : List (List ℕ)). made ++ record { key = one.key; name = local_name those own one } ∷ []) same)
    ∙ sym (ap (λ (wanted : List WantedLocal). made_behind items own made wanted) split)
