-- Where each nest of a list goes: from each of its nodes there is a way to each of its targets, in the list or in an arm.
use Rattle.std.proofs.Common.{◌≡◌, ◌≢◌, ◌∙◌, ◌⊎◌, inl, inr, ℕ, zero, suc, ◌+◌, ◌<◌, ◌≤◌, ◌==◌, nat_lt, Bool, true, false, ◌&&◌, ◌||◌, not, List, [], ◌∷◌, ◌++◌, length, Option, Some, None, slice_get, if◌then◌else◌, arith, refl, sym, ap, subst}
use Rattle.std.specs.Prelude.{⊤}
use Rattle.std.proofs.lemmas.Bool.{lt-ltb}
use Rattle.reloop.specs.Graphs.{is_in, IsIn}
use Rattle.reloop.proofs.Sets.{either, or_left, or_right, in_append, same_number, equal_itself}
use Rattle.flow.specs.Flows.{FlowTree}
use Rattle.emit_rules.specs.Nests.{Nest, Chain, nest_entries}
use Rattle.emit_rules.specs.Places.{Leaving, leavings, Seen, first_of, Table, see_all}
use Rattle.emit_rules.specs.Sorting.{Inner, Sibling, Sorted, nothing_sorted, only_entry, seen_at, stays, sibling_holds, goes_inside, out_of_arm, with_inner, put_inside, first_from, put_behind, put_seen, put, all_entries, put_all}
use Rattle.emit_laws.specs.Covers.{Nodes, nowhere, with_nodes, either_of, CoversNest}
use Rattle.emit_laws.proofs.Closing.{and_left, and_right, and_both}
use Rattle.emit_laws.proofs.Covering.{either_by, in_left, in_right, nest_more}
use Rattle.emit_laws.proofs.Seeing.{IsAmong, least_left, least_right, IsSeen, AreTold, AreBefore, all_keep, all_seen, all_told, all_before}
use Rattle.emit_laws.proofs.Ways.{IsFlat, among_append, alone, flat_grows}

-- ---- what goes inside

-- the entries of what goes inside
abbrev pub inner_entries : List Inner → List ℕ
inner_entries [] = []
inner_entries (inner ∷ others) = nest_entries inner.nest ++ inner_entries others

-- of what goes into an arm
abbrev pub is_at : ℕ → ℕ → Inner → Bool
is_at node arm inner = inner.node == node && inner.arm == arm

abbrev pub entries_at : ℕ → ℕ → List Inner → List ℕ
entries_at node arm [] = []
entries_at node arm (inner ∷ others) = if is_at node arm inner then nest_entries inner.nest ++ entries_at node arm others else entries_at node arm others

-- the first that goes into an arm
abbrev pub first_at : ℕ → ℕ → List Inner → Option Inner
first_at node arm [] = None
first_at node arm (inner ∷ others) = if is_at node arm inner then Some inner else first_at node arm others

-- the entries of nests of a list to which control goes from in front of a limit
abbrev pub seen_from : ℕ → List Sibling → Nodes
seen_from limit [] node = false
seen_from limit (sibling ∷ others) node = (nat_lt sibling.from limit && is_in node (nest_entries sibling.nest)) || seen_from limit others node

module _ (flow : FlowTree) where
  -- a nest has a way out of an arm
  pub record HasArm (nest : Nest) (node arm : ℕ) : Type 0 where
    pub way : Leaving
    pub among : IsAmong way (leavings flow nest)
    pub node_is : way.node ≡ node
    pub arm_is : way.arm ≡ arm

  -- and that leads to where another nest is entered alone
  pub record LeadsTo (nest : Nest) (node arm : ℕ) (entries : List ℕ) : Type 0 where
    pub out : HasArm nest node arm
    pub enters : entries ≡ out.way.to ∷ []

  module _ (behind : Chain → List ℕ) (may_go_inside : Bool) (ahead known : Nodes) where
    -- what is there in front of the rest of a list
    abbrev pub around_of : (rest : List ℕ) → (sees : Nodes) → Nodes
    around_of rest sees = with_nodes rest (either_of sees ahead)

    -- each nest that goes inside covers, with those behind it in its arm ahead
    abbrev pub InnersCover : Nodes → List Inner → Type 0
    InnersCover around [] = ⊤
    InnersCover around (inner ∷ others) =
        IsFlat inner.nest × CoversNest flow behind (with_nodes (entries_at inner.node inner.arm others) around) known inner.nest × InnersCover around others

    -- where an arm is, by what was seen
    abbrev pub IsTold : Nest → List Inner → ℕ → ℕ → ℕ → Type 0
    IsTold nest inside node arm to = LeadsTo nest node arm (to ∷ []) ⊎ ((inner : Inner) × (first_at node arm inside ≡ Some inner))

    -- a nest of the list with this number, where later ones that it leads to have these entries
    pub record IsFine (rest : List ℕ) (table : Table) (sees : Nodes) (number : ℕ) (sibling : Sibling) : Type 0 where
      pub flat : IsFlat sibling.nest
      pub own : CoversNest flow behind (with_nodes (inner_entries sibling.inside) (around_of rest sees)) known sibling.nest
      pub inner : InnersCover (around_of rest sees) sibling.inside
      -- its ways, and those of what goes inside, were seen
      pub seen : (way : Leaving) → IsAmong way (leavings flow sibling.nest) → IsSeen table number way.node way.arm way.to
      pub inner_seen : (one : Inner) → IsAmong one sibling.inside → (way : Leaving) → IsAmong way (leavings flow one.nest) → IsSeen table number one.node one.arm way.to
      -- its ways to what goes inside are out of the arm of that
      pub placed : (one : Inner) → IsAmong one sibling.inside → (way : Leaving) → IsAmong way (leavings flow sibling.nest) → IsIn way.to (nest_entries one.nest) → (way.node ≡ one.node) × (way.arm ≡ one.arm)
      -- the arm leads to the first that goes into it
      pub first : (node arm : ℕ) (one : Inner) → first_at node arm sibling.inside ≡ Some one → LeadsTo sibling.nest node arm (nest_entries one.nest)
      pub armed : (one : Inner) → IsAmong one sibling.inside → HasArm sibling.nest one.node one.arm
      pub told : AreTold table number (IsTold sibling.nest sibling.inside)
      pub bare : may_go_inside ≡ false → sibling.inside ≡ []

    -- all nests of a list from a number on
    abbrev pub AllFine : (rest : List ℕ) → Table → ℕ → List Sibling → Type 0
    AllFine rest table number [] = ⊤
    AllFine rest table number (sibling ∷ others) = IsFine rest table (seen_from (suc number) others) number sibling × AllFine rest table (suc number) others

    -- ---- what stays as it is

    module _ (entries rest : List ℕ) (table later : Table) (sees more : Nodes) (number : ℕ) (within : (node : ℕ) → sees node ≡ true → more node ≡ true)
        (shown : (node arm to : ℕ) → IsSeen table number node arm to → IsIn to entries → more to ≡ true) where
      around_grows : (inside : List ℕ) (to : ℕ) → (IsIn to entries → more to ≡ true) → with_nodes inside (around_of (entries ++ rest) sees) to ≡ true → with_nodes inside (around_of rest more) to ≡ true
      around_grows inside to shows is =
          either_by (is_in to inside) (around_of (entries ++ rest) sees to) (or_left (is_in to inside) (around_of rest more to))
          (λ out. or_right (is_in to inside) (around_of rest more to) (either_by (is_in to (entries ++ rest)) (sees to || ahead to)
          (λ there. either_by (is_in to entries) (is_in to rest) (λ here. or_right (is_in to rest) (more to || ahead to) (or_left (more to) (ahead to) (shows here)))
          (or_left (is_in to rest) (more to || ahead to)) (sym (in_append to entries rest) ∙ there))
          (λ beyond. or_right (is_in to rest) (more to || ahead to) (either_by (sees to) (ahead to) (λ seen. or_left (more to) (ahead to) (within to seen)) (or_right (more to) (ahead to)) beyond)) out)) is

      inners_grow : (inside : List Inner) → ((one : Inner) → IsAmong one inside → (way : Leaving) → IsAmong way (leavings flow one.nest) → IsSeen table number one.node one.arm way.to) →
          InnersCover (around_of (entries ++ rest) sees) inside → InnersCover (around_of rest more) inside
      inners_grow [] seen cover = tt
      inners_grow (inner ∷ others) seen cover = (
        cover.0,
        flat_grows flow behind inner.nest (with_nodes (entries_at inner.node inner.arm others) (around_of (entries ++ rest) sees)) (with_nodes (entries_at inner.node inner.arm others) (around_of rest more)) known
            cover.0 (λ way there. around_grows (entries_at inner.node inner.arm others) way.to (shown inner.node inner.arm way.to (seen inner (inl refl) way there))) cover.1,
        inners_grow others (λ one there. seen one (inr there)) cover.2,
      )

      still_fine : (sibling : Sibling) → ((node arm to : ℕ) → IsSeen table number node arm to → IsSeen later number node arm to) →
          (AreTold table number (IsTold sibling.nest sibling.inside) → AreTold later number (IsTold sibling.nest sibling.inside)) →
          IsFine (entries ++ rest) table sees number sibling → IsFine rest later more number sibling
      still_fine sibling keeps tells fine = record {
        flat = fine.flat;
        own =
            flat_grows flow behind sibling.nest (with_nodes (inner_entries sibling.inside) (around_of (entries ++ rest) sees)) (with_nodes (inner_entries sibling.inside) (around_of rest more)) known fine.flat
            (λ way there. around_grows (inner_entries sibling.inside) way.to (shown way.node way.arm way.to (fine.seen way there))) fine.own;
        inner = inners_grow sibling.inside fine.inner_seen fine.inner;
        seen = λ way there. keeps way.node way.arm way.to (fine.seen way there);
        inner_seen = λ one there way among. keeps one.node one.arm way.to (fine.inner_seen one there way among);
        placed = fine.placed;
        first = fine.first;
        armed = fine.armed;
        told = tells fine.told;
        bare = fine.bare;
      }

    -- ---- a nest that stays in the list

    -- the first nest from which control comes to some of these nodes
    from_most : (table : Table) (number : ℕ) (entries : List ℕ) → first_from table number entries ≤ number
    from_most table number [] = omega arith
    from_most table number (node ∷ others) =
        let rest = from_most table (first_of number (table node)) others in
        let less = least_of number (table node) in omega (arith, rest, less)
      where
        least_of : (number : ℕ) (found : Option Seen) → first_of number found ≤ number
        least_of number None = omega arith
        least_of number (Some seen) = least_left number seen.sibling

    from_seen : (table : Table) (number : ℕ) (entries : List ℕ) (at node arm to : ℕ) → IsSeen table at node arm to → IsIn to entries → first_from table number entries ≤ at
    from_seen table number [] at node arm to seen there = absurd cc
    from_seen table number (first ∷ others) at node arm to seen there = by_side (either (to == first) (is_in to others) there) (from_seen table (first_of number (table first)) others at node arm to seen)
      where
        of_found : (found : Option Seen) → found ≡ Some seen.seen → first_of number found ≤ at
        of_found found is = subst (λ (one : Option Seen). first_of number one ≤ at) (sym is) (let right = least_right number seen.seen.sibling in let earlier = seen.earlier in omega (arith, right, earlier))

        by_side : ((to == first) ≡ true) ⊎ IsIn to others → (IsIn to others → first_from table (first_of number (table first)) others ≤ at) → first_from table (first_of number (table first)) others ≤ at
        by_side (inl same) later =
            let here = of_found (table first) (sym (ap table (same_number to first same)) ∙ seen.is) in
            let rest = from_most table (first_of number (table first)) others in omega (arith, here, rest)
        by_side (inr there) later = later there

    -- entries from in front of a limit
    seen_still : (limit : ℕ) (siblings : List Sibling) (new : Sibling) (node : ℕ) → seen_from limit siblings node ≡ true → seen_from limit (siblings ++ new ∷ []) node ≡ true
    seen_still limit [] new node is = absurd cc
    seen_still limit (sibling ∷ others) new node is =
        either_by (nat_lt sibling.from limit && is_in node (nest_entries sibling.nest)) (seen_from limit others node)
        (or_left (nat_lt sibling.from limit && is_in node (nest_entries sibling.nest)) (seen_from limit (others ++ new ∷ []) node))
        (λ rest. or_right (nat_lt sibling.from limit && is_in node (nest_entries sibling.nest)) (seen_from limit (others ++ new ∷ []) node) (seen_still limit others new node rest)) is

    seen_new : (limit : ℕ) (siblings : List Sibling) (new : Sibling) (node : ℕ) → new.from < limit → IsIn node (nest_entries new.nest) → seen_from limit (siblings ++ new ∷ []) node ≡ true
    seen_new limit [] new node less there =
        or_left (nat_lt new.from limit && is_in node (nest_entries new.nest)) false (and_both (nat_lt new.from limit) (is_in node (nest_entries new.nest)) (lt-ltb new.from limit less) there)
    seen_new limit (sibling ∷ others) new node less there =
        or_right (nat_lt sibling.from limit && is_in node (nest_entries sibling.nest)) (seen_from limit (others ++ new ∷ []) node) (seen_new limit others new node less there)

    module _ (nest : Nest) (rest : List ℕ) (table : Table) (length_is : ℕ) where
      abbrev new_sibling : Sibling
      new_sibling = record { nest = nest; from = first_from table length_is (nest_entries nest); inside = [] }

      abbrev new_table : Table
      new_table = see_all length_is true (leavings flow nest) table

      new_fine : IsFlat nest → CoversNest flow behind (with_nodes rest ahead) known nest → AreBefore table length_is → IsFine rest new_table nowhere length_is new_sibling
      new_fine flat covers before = record {
        flat = flat;
        own = nest_more flow behind nest (with_nodes rest ahead) (with_nodes [] (around_of rest nowhere)) known (λ node is. is) covers;
        inner = tt;
        seen = λ way there. all_seen length_is true (leavings flow nest) table way there;
        inner_seen = λ one none. elim none [ ];
        placed = λ one none. elim none [ ];
        first = λ node arm one is. absurd cc;
        armed = λ one none. elim none [ ];
        told = all_told length_is true (leavings flow nest) table length_is (IsTold nest [])
            (λ to seen is at one. absurd (let less = before to seen is in omega (arith, less, at)))
            (λ way there same. inl (record { out = record { way = way; among = there; node_is = refl; arm_is = refl }; enters = refl }));
        bare = λ may. refl;
      }

      behind_fine : (number : ℕ) (siblings : List Sibling) → number + length siblings ≡ length_is → IsFlat nest → CoversNest flow behind (with_nodes rest ahead) known nest → AreBefore table length_is →
          AllFine (nest_entries nest ++ rest) table number siblings → AllFine rest new_table number (siblings ++ new_sibling ∷ [])
      behind_fine number [] is flat covers before fine =
          (subst (λ (k : ℕ). IsFine rest new_table nowhere k new_sibling) (let same : length_is ≡ number = omega (arith, is) in same) (new_fine flat covers before), tt)
      behind_fine number (sibling ∷ others) is flat covers before fine = (
        still_fine (nest_entries nest) rest table new_table (seen_from (suc number) others) (seen_from (suc number) (others ++ new_sibling ∷ [])) number
            (λ node there. seen_still (suc number) others new_sibling node there)
            (λ node arm to seen there. seen_new (suc number) others new_sibling to (let from = from_seen table length_is (nest_entries nest) number node arm to seen there in omega (arith, from)) there)
            sibling (λ node arm to seen. all_keep length_is true (leavings flow nest) table number node arm to seen)
            (λ told. all_told length_is true (leavings flow nest) table number (IsTold sibling.nest sibling.inside) told (λ way there same. absurd (omega (arith, same, is)))) fine.0,
        behind_fine (suc number) others (omega (arith, is)) flat covers before fine.1,
      )

    -- ---- a nest that goes into an arm

    seen_with_inner : (limit number : ℕ) (inner : Inner) (siblings : List Sibling) (node : ℕ) → seen_from limit siblings node ≡ true → seen_from limit (with_inner number inner siblings) node ≡ true
    seen_with_inner limit zero inner [] node is = is
    seen_with_inner limit (suc number) inner [] node is = is
    seen_with_inner limit zero inner (sibling ∷ others) node is = is
    seen_with_inner limit (suc number) inner (sibling ∷ others) node is =
        either_by (nat_lt sibling.from limit && is_in node (nest_entries sibling.nest)) (seen_from limit others node)
        (or_left (nat_lt sibling.from limit && is_in node (nest_entries sibling.nest)) (seen_from limit (with_inner number inner others) node))
        (λ rest. or_right (nat_lt sibling.from limit && is_in node (nest_entries sibling.nest)) (seen_from limit (with_inner number inner others) node) (seen_with_inner limit number inner others node rest)) is

    inner_left : (inside : List Inner) (new : Inner) (node : ℕ) → IsIn node (inner_entries inside) → IsIn node (inner_entries (inside ++ new ∷ []))
    inner_left [] new node there = absurd cc
    inner_left (inner ∷ others) new node there =
        either_by (is_in node (nest_entries inner.nest)) (is_in node (inner_entries others)) (in_left node (nest_entries inner.nest) (inner_entries (others ++ new ∷ [])))
        (λ rest. in_right node (nest_entries inner.nest) (inner_entries (others ++ new ∷ [])) (inner_left others new node rest)) (sym (in_append node (nest_entries inner.nest) (inner_entries others)) ∙ there)

    inner_last : (inside : List Inner) (new : Inner) (node : ℕ) → IsIn node (nest_entries new.nest) → IsIn node (inner_entries (inside ++ new ∷ []))
    inner_last [] new node there = in_left node (nest_entries new.nest) [] there
    inner_last (inner ∷ others) new node there = in_right node (nest_entries inner.nest) (inner_entries (others ++ new ∷ [])) (inner_last others new node there)

    entries_left : (node arm : ℕ) (inside : List Inner) (new : Inner) (to : ℕ) → IsIn to (entries_at node arm inside) → IsIn to (entries_at node arm (inside ++ new ∷ []))
    entries_left node arm [] new to there = absurd cc
    entries_left node arm (inner ∷ others) new to there = by_test (is_at node arm inner) there (entries_left node arm others new to)
      where
        by_test : (here : Bool) → IsIn to (if here then nest_entries inner.nest ++ entries_at node arm others else entries_at node arm others) →
            (IsIn to (entries_at node arm others) → IsIn to (entries_at node arm (others ++ new ∷ []))) →
            IsIn to (if here then nest_entries inner.nest ++ entries_at node arm (others ++ new ∷ []) else entries_at node arm (others ++ new ∷ []))
        by_test true there later =
            either_by (is_in to (nest_entries inner.nest)) (is_in to (entries_at node arm others)) (in_left to (nest_entries inner.nest) (entries_at node arm (others ++ new ∷ [])))
            (λ rest. in_right to (nest_entries inner.nest) (entries_at node arm (others ++ new ∷ [])) (later rest)) (sym (in_append to (nest_entries inner.nest) (entries_at node arm others)) ∙ there)
        by_test false there later = later there

    entries_last : (node arm : ℕ) (inside : List Inner) (new : Inner) (to : ℕ) → is_at node arm new ≡ true → IsIn to (nest_entries new.nest) → IsIn to (entries_at node arm (inside ++ new ∷ []))
    entries_last node arm [] new to here there =
        subst (λ (test : Bool). IsIn to (if test then nest_entries new.nest ++ [] else [])) (sym here) (in_left to (nest_entries new.nest) [] there)
    entries_last node arm (inner ∷ others) new to here there = by_test (is_at node arm inner) (entries_last node arm others new to here there)
      where
        by_test : (test : Bool) → IsIn to (entries_at node arm (others ++ new ∷ [])) →
            IsIn to (if test then nest_entries inner.nest ++ entries_at node arm (others ++ new ∷ []) else entries_at node arm (others ++ new ∷ []))
        by_test true later = in_right to (nest_entries inner.nest) (entries_at node arm (others ++ new ∷ [])) later
        by_test false later = later

    is_at_itself : (node arm : ℕ) (inner : Inner) → inner.node ≡ node → inner.arm ≡ arm → is_at node arm inner ≡ true
    is_at_itself node arm inner same so =
        and_both (inner.node == node) (inner.arm == arm) (subst (λ (one : ℕ). (inner.node == one) ≡ true) same (equal_itself inner.node)) (subst (λ (one : ℕ). (inner.arm == one) ≡ true) so (equal_itself inner.arm))

    first_left : (node arm : ℕ) (inside : List Inner) (new one : Inner) → first_at node arm inside ≡ Some one → first_at node arm (inside ++ new ∷ []) ≡ Some one
    first_left node arm [] new one is = absurd cc
    first_left node arm (inner ∷ others) new one is = by_test (is_at node arm inner) is (first_left node arm others new one)
      where
        by_test : (here : Bool) → (if here then Some inner else first_at node arm others) ≡ Some one → (first_at node arm others ≡ Some one → first_at node arm (others ++ new ∷ []) ≡ Some one) →
            (if here then Some inner else first_at node arm (others ++ new ∷ [])) ≡ Some one
        by_test true is later = is
        by_test false is later = later is

    first_last : (node arm : ℕ) (inside : List Inner) (new : Inner) → first_at node arm inside ≡ None → first_at node arm (inside ++ new ∷ []) ≡ (if is_at node arm new then Some new else None)
    first_last node arm [] new is = refl
    first_last node arm (inner ∷ others) new is = by_test (is_at node arm inner) is (first_last node arm others new)
      where
        by_test : (here : Bool) → (if here then Some inner else first_at node arm others) ≡ None →
            (first_at node arm others ≡ None → first_at node arm (others ++ new ∷ []) ≡ (if is_at node arm new then Some new else None)) →
            (if here then Some inner else first_at node arm (others ++ new ∷ [])) ≡ (if is_at node arm new then Some new else None)
        by_test true is later = absurd cc
        by_test false is later = later is

    some_inner : (one other : Inner) → Some one ≡ Some other → one ≡ other
    some_inner one other same = cc

    some_seen : (one other : Seen) → Some one ≡ Some other → one ≡ other
    some_seen one other same = cc

    among_out : (seen : Seen) (ways : List Leaving) (way : Leaving) → IsAmong way ways →
        IsAmong (record { node = seen.node; arm = seen.arm; to = way.to; may_hold = true }) (out_of_arm seen ways)
    among_out seen [] way none = elim none [ ]
    among_out seen (first ∷ others) way (inl same) = inl (ap (λ (one : Leaving). record { node = seen.node; arm = seen.arm; to = one.to; may_hold = true }) same)
    among_out seen (first ∷ others) way (inr later) = inr (among_out seen others way later)

    out_is : (seen : Seen) (ways : List Leaving) (way : Leaving) → IsAmong way (out_of_arm seen ways) → (way.node ≡ seen.node) × (way.arm ≡ seen.arm)
    out_is seen [] way none = elim none [ ]
    out_is seen (first ∷ others) way (inl same) = (ap (λ (one : Leaving). one.node) same, ap (λ (one : Leaving). one.arm) same)
    out_is seen (first ∷ others) way (inr later) = out_is seen others way later

    module _ (nest : Nest) (entry : ℕ) (rest : List ℕ) (table : Table) (seen : Seen) (is : table entry ≡ Some seen) (one : seen.is_one ≡ true) (enters : nest_entries nest ≡ entry ∷ [])
        (flat : IsFlat nest) (covers : CoversNest flow behind (with_nodes rest ahead) known nest) (may : may_go_inside ≡ true) where
      abbrev new_inner : Inner
      new_inner = record { node = seen.node; arm = seen.arm; nest = nest }

      abbrev later_table : Table
      later_table = see_all seen.sibling false (out_of_arm seen (leavings flow nest)) table

      -- a way to the nest is out of its arm
      at_arm_of : (number node arm to : ℕ) → IsSeen table number node arm to → IsIn to (nest_entries nest) → (seen.sibling ≡ number) × (seen.node ≡ node) × (seen.arm ≡ arm)
      at_arm_of number node arm to found there =
          let at : to ≡ entry = alone to entry (subst (λ (entries : List ℕ). IsIn to entries) enters there) in
          let same : found.seen ≡ seen = some_seen found.seen seen (sym found.is ∙ ap table at ∙ is) in
          let told = found.one (ap (λ (one : Seen). one.is_one) same ∙ one) in
          (sym (ap (λ (one : Seen). one.sibling) same) ∙ told.0, sym (ap (λ (one : Seen). one.node) same) ∙ told.1, sym (ap (λ (one : Seen). one.arm) same) ∙ told.2)

      keeps_seen : (number node arm to : ℕ) → IsSeen table number node arm to → IsSeen later_table number node arm to
      keeps_seen number node arm to found = all_keep seen.sibling false (out_of_arm seen (leavings flow nest)) table number node arm to found

      other_fine : (number : ℕ) (sibling : Sibling) (sees more : Nodes) → seen.sibling ≢ number → ((node : ℕ) → sees node ≡ true → more node ≡ true) →
          IsFine (nest_entries nest ++ rest) table sees number sibling → IsFine rest later_table more number sibling
      other_fine number sibling sees more differ within fine =
          still_fine (nest_entries nest) rest table later_table sees more number within (λ node arm to found there. absurd (differ (at_arm_of number node arm to found there).0)) sibling
          (keeps_seen number)
          (λ told. all_told seen.sibling false (out_of_arm seen (leavings flow nest)) table number (IsTold sibling.nest sibling.inside) told (λ way there same. absurd (differ same))) fine

      others_fine : (number : ℕ) (siblings : List Sibling) → seen.sibling < number → AllFine (nest_entries nest ++ rest) table number siblings → AllFine rest later_table number siblings
      others_fine number [] less fine = tt
      others_fine number (sibling ∷ others) less fine = (
        other_fine number sibling (seen_from (suc number) others) (seen_from (suc number) others) (λ same. absurd (omega (arith, less, same))) (λ node there. there) fine.0,
        others_fine (suc number) others (omega (arith, less)) fine.1,
      )

      module _ (number : ℕ) (sibling : Sibling) (sees : Nodes) (at : seen.sibling ≡ number) (fine : IsFine (nest_entries nest ++ rest) table sees number sibling) where
        abbrev inside_now : List Inner
        inside_now = sibling.inside ++ new_inner ∷ []

        -- what was in front of the nest is there, or is the nest
        around_held : (inside : List ℕ) (more : List ℕ) (to : ℕ) → (IsIn to inside → IsIn to more) → (IsIn to (nest_entries nest) → IsIn to more) →
            with_nodes inside (around_of (nest_entries nest ++ rest) sees) to ≡ true → with_nodes more (around_of rest sees) to ≡ true
        around_held inside more to old new is =
            either_by (is_in to inside) (around_of (nest_entries nest ++ rest) sees to) (λ there. or_left (is_in to more) (around_of rest sees to) (old there))
            (either_by (is_in to (nest_entries nest ++ rest)) (sees to || ahead to)
            (λ there. either_by (is_in to (nest_entries nest)) (is_in to rest) (λ here. or_left (is_in to more) (around_of rest sees to) (new here))
            (λ later. or_right (is_in to more) (around_of rest sees to) (or_left (is_in to rest) (sees to || ahead to) later)) (sym (in_append to (nest_entries nest) rest) ∙ there))
            (λ out. or_right (is_in to more) (around_of rest sees to) (or_right (is_in to rest) (sees to || ahead to) out))) is

        inners_held : (inside : List Inner) → ((inner : Inner) → IsAmong inner inside → (way : Leaving) → IsAmong way (leavings flow inner.nest) → IsSeen table number inner.node inner.arm way.to) →
            InnersCover (around_of (nest_entries nest ++ rest) sees) inside → InnersCover (around_of rest sees) (inside ++ new_inner ∷ [])
        inners_held [] found cover = (
          flat,
          nest_more flow behind nest (with_nodes rest ahead) (with_nodes [] (around_of rest sees)) known
              (λ node. either_by (is_in node rest) (ahead node) (or_left (is_in node rest) (sees node || ahead node)) (λ out. or_right (is_in node rest) (sees node || ahead node) (or_right (sees node) (ahead node) out)))
              covers,
          tt,
        )
        inners_held (inner ∷ others) found cover = (
          cover.0,
          flat_grows flow behind inner.nest (with_nodes (entries_at inner.node inner.arm others) (around_of (nest_entries nest ++ rest) sees))
              (with_nodes (entries_at inner.node inner.arm (others ++ new_inner ∷ [])) (around_of rest sees)) known cover.0
              (λ way there. around_held (entries_at inner.node inner.arm others) (entries_at inner.node inner.arm (others ++ new_inner ∷ [])) way.to (entries_left inner.node inner.arm others new_inner way.to)
              (λ here. let arm = at_arm_of number inner.node inner.arm way.to (found inner (inl refl) way there) here in
              entries_last inner.node inner.arm others new_inner way.to (is_at_itself inner.node inner.arm new_inner arm.1 arm.2) here)) cover.1,
          inners_held others (λ other there. found other (inr there)) cover.2,
        )

        told_held : IsTold sibling.nest sibling.inside seen.node seen.arm entry
        told_held = fine.told entry seen is at one

        -- in its arm there is one then
        some_at : (found : Option Inner) → first_at seen.node seen.arm sibling.inside ≡ found → (inner : Inner) × (first_at seen.node seen.arm inside_now ≡ Some inner)
        some_at (Some inner) found = (inner, first_left seen.node seen.arm sibling.inside new_inner inner found)
        some_at None found = (
          new_inner,
          first_last seen.node seen.arm sibling.inside new_inner found
              ∙ ap (λ (here : Bool). if here then Some new_inner else None) (is_at_itself seen.node seen.arm new_inner refl refl),
        )

        -- the nest is the first in its arm only where that leads to it
        first_new : (node arm : ℕ) (inner : Inner) → first_at node arm sibling.inside ≡ None → (here : Bool) → is_at node arm new_inner ≡ here → (if here then Some new_inner else None) ≡ Some inner →
            LeadsTo sibling.nest node arm (nest_entries inner.nest)
        first_new node arm inner none false here given = absurd cc
        first_new node arm inner none true here given =
            subst (λ (one : Inner). LeadsTo sibling.nest node arm (nest_entries one.nest)) (some_inner new_inner inner given)
            (subst (λ (n : ℕ). LeadsTo sibling.nest n arm (nest_entries nest)) node_is (subst (λ (a : ℕ). LeadsTo sibling.nest seen.node a (nest_entries nest)) arm_is (by_told told_held)))
          where
            node_is : seen.node ≡ node
            node_is = same_number seen.node node (and_left (seen.node == node) (seen.arm == arm) here)

            arm_is : seen.arm ≡ arm
            arm_is = same_number seen.arm arm (and_right (seen.node == node) (seen.arm == arm) here)

            by_told : IsTold sibling.nest sibling.inside seen.node seen.arm entry → LeadsTo sibling.nest seen.node seen.arm (nest_entries nest)
            by_told (inl leads) = record { out = leads.out; enters = enters ∙ leads.enters }
            by_told (inr held) =
                let none_there : first_at seen.node seen.arm sibling.inside ≡ None =
                ap (λ (n : ℕ). first_at n seen.arm sibling.inside) node_is ∙ ap (λ (a : ℕ). first_at node a sibling.inside) arm_is ∙ none in
                absurd (some_and_none held.0 (sym held.1 ∙ none_there))
              where
                some_and_none : (held : Inner) → Some held ≡ None → ⊥
                some_and_none held same = cc

        first_held : (node arm : ℕ) (inner : Inner) (found : Option Inner) → first_at node arm sibling.inside ≡ found → first_at node arm inside_now ≡ Some inner →
            LeadsTo sibling.nest node arm (nest_entries inner.nest)
        first_held node arm inner (Some old) found given =
            subst (λ (one : Inner). LeadsTo sibling.nest node arm (nest_entries one.nest))
            (some_inner old inner (sym (first_left node arm sibling.inside new_inner old found) ∙ given)) (fine.first node arm old found)
        first_held node arm inner None found given =
            first_new node arm inner found (is_at node arm new_inner) refl (sym (first_last node arm sibling.inside new_inner found) ∙ given)

        armed_new : IsTold sibling.nest sibling.inside seen.node seen.arm entry → HasArm sibling.nest seen.node seen.arm
        armed_new (inl leads) = leads.out
        armed_new (inr held) = (fine.first seen.node seen.arm held.0 held.1).out

        by_inner : (C : Inner → Type 0) → ((inner : Inner) → IsAmong inner sibling.inside → C inner) → C new_inner → (inner : Inner) → IsAmong inner inside_now → C inner
        by_inner C old new inner there = by_side (among_append inner sibling.inside (new_inner ∷ []) there)
          where
            by_side : IsAmong inner sibling.inside ⊎ IsAmong inner (new_inner ∷ []) → C inner
            by_side (inl there) = old inner there
            by_side (inr (inl same)) = subst C (sym same) new
            by_side (inr (inr none)) = elim none [ ]

        told_more : (node arm to : ℕ) → IsTold sibling.nest sibling.inside node arm to → IsTold sibling.nest inside_now node arm to
        told_more node arm to (inl leads) = inl leads
        told_more node arm to (inr held) = inr (held.0, first_left node arm sibling.inside new_inner held.0 held.1)

        held_fine : IsFine rest later_table sees number (record sibling { inside = inside_now })
        held_fine = record {
          flat = fine.flat;
          own =
              flat_grows flow behind sibling.nest (with_nodes (inner_entries sibling.inside) (around_of (nest_entries nest ++ rest) sees)) (with_nodes (inner_entries inside_now) (around_of rest sees)) known fine.flat
              (λ way there. around_held (inner_entries sibling.inside) (inner_entries inside_now) way.to (inner_left sibling.inside new_inner way.to) (inner_last sibling.inside new_inner way.to)) fine.own;
          inner = inners_held sibling.inside fine.inner_seen fine.inner;
          seen = λ way there. keeps_seen number way.node way.arm way.to (fine.seen way there);
          inner_seen = by_inner (λ inner. (way : Leaving) → IsAmong way (leavings flow inner.nest) → IsSeen later_table number inner.node inner.arm way.to)
              (λ inner there way among. keeps_seen number inner.node inner.arm way.to (fine.inner_seen inner there way among))
              (λ way among. subst (λ (k : ℕ). IsSeen later_table k seen.node seen.arm way.to) at
              (all_seen seen.sibling false (out_of_arm seen (leavings flow nest)) table _ (among_out seen (leavings flow nest) way among)));
          placed = by_inner (λ inner. (way : Leaving) → IsAmong way (leavings flow sibling.nest) → IsIn way.to (nest_entries inner.nest) → (way.node ≡ inner.node) × (way.arm ≡ inner.arm))
              (λ inner there. fine.placed inner there)
              (λ way among there. let arm = at_arm_of number way.node way.arm way.to (fine.seen way among) there in (sym arm.1, sym arm.2));
          first = λ node arm inner given. first_held node arm inner (first_at node arm sibling.inside) refl given;
          armed = by_inner (λ inner. HasArm sibling.nest inner.node inner.arm) (λ inner there. fine.armed inner there) (armed_new told_held);
          told = all_told seen.sibling false (out_of_arm seen (leavings flow nest)) table number (IsTold sibling.nest inside_now)
              (λ to other is at one. told_more other.node other.arm to (fine.told to other is at one))
              (λ way among same.
              let out = out_is seen (leavings flow nest) way among in
              subst (λ (n : ℕ). IsTold sibling.nest inside_now n way.arm way.to) (sym out.0)
              (subst (λ (a : ℕ). IsTold sibling.nest inside_now seen.node a way.to) (sym out.1) (inr (some_at (first_at seen.node seen.arm sibling.inside) refl))));
          bare = λ none. absurd (both_ways may_go_inside may none);
        }
          where
            both_ways : (b : Bool) → b ≡ true → b ≡ false → ⊥
            both_ways true is none = cc
            both_ways false is none = cc

      inside_fine : (number left : ℕ) (siblings : List Sibling) → number + left ≡ seen.sibling → left < length siblings → AllFine (nest_entries nest ++ rest) table number siblings →
          AllFine rest later_table number (with_inner left new_inner siblings)
      inside_fine number left [] at less fine = absurd (omega (arith, less))
      inside_fine number zero (sibling ∷ others) at less fine = (
        held_fine number sibling (seen_from (suc number) others) (omega (arith, at)) fine.0,
        others_fine (suc number) others (omega (arith, at)) fine.1,
      )
      inside_fine number (suc left) (sibling ∷ others) at less fine = (
        other_fine number sibling (seen_from (suc number) others) (seen_from (suc number) (with_inner left new_inner others)) (λ same. absurd (omega (arith, at, same)))
            (λ node there. seen_with_inner (suc number) left new_inner others node there) fine.0,
        inside_fine (suc number) left others (omega (arith, at)) (omega (arith, less)) fine.1,
      )

    -- ---- a whole list

    -- nests of a list cover, each with all later ones ahead
    abbrev pub ListCovers : List Nest → Type 0
    ListCovers [] = ⊤
    ListCovers (nest ∷ others) = IsFlat nest × CoversNest flow behind (with_nodes (all_entries others) ahead) known nest × ListCovers others

    pub record IsSorted (rest : List ℕ) (sorted : Sorted) : Type 0 where
      pub fine : AllFine rest sorted.table 0 sorted.siblings
      pub before : AreBefore sorted.table (length sorted.siblings)

    only_is : (entries : List ℕ) (entry : ℕ) → only_entry entries ≡ Some entry → entries ≡ entry ∷ []
    only_is [] entry is = absurd cc
    only_is (node ∷ []) entry is = let same : node ≡ entry = cc in ap (λ (one : ℕ). one ∷ []) same
    only_is (node ∷ other ∷ others) entry is = absurd cc

    longer : (siblings : List Sibling) (new : Sibling) → length (siblings ++ new ∷ []) ≡ suc (length siblings)
    longer [] new = refl
    longer (sibling ∷ others) new = ap suc (longer others new)

    as_long : (number : ℕ) (inner : Inner) (siblings : List Sibling) → length (with_inner number inner siblings) ≡ length siblings
    as_long zero inner [] = refl
    as_long (suc number) inner [] = refl
    as_long zero inner (sibling ∷ others) = refl
    as_long (suc number) inner (sibling ∷ others) = ap suc (as_long number inner others)

    module _ (nest : Nest) (others : List Nest) (left : List ℕ) (sorted : Sorted) (flat : IsFlat nest) (covers : CoversNest flow behind (with_nodes (all_entries others) ahead) known nest)
        (good : IsSorted (nest_entries nest ++ all_entries others) sorted) where
      behind_sorted : IsSorted (all_entries others) (put_behind flow left sorted nest)
      behind_sorted = record {
        fine = behind_fine nest (all_entries others) sorted.table (length sorted.siblings) 0 sorted.siblings (omega arith) flat covers good.before good.fine;
        before = subst (AreBefore (new_table nest (all_entries others) sorted.table (length sorted.siblings))) (sym (longer sorted.siblings (new_sibling nest (all_entries others) sorted.table (length sorted.siblings))))
            (all_before (length sorted.siblings) true (leavings flow nest) sorted.table (suc (length sorted.siblings)) (λ to seen is. let less = good.before to seen is in omega (arith, less)) (omega arith));
      }

      inside_sorted : (entry : ℕ) (seen : Seen) → sorted.table entry ≡ Some seen → seen.is_one ≡ true → nest_entries nest ≡ entry ∷ [] → may_go_inside ≡ true → IsSorted (all_entries others) (put_inside flow left sorted nest seen)
      inside_sorted entry seen is one enters may =
          let less = good.before entry seen is in
          record {
            fine = inside_fine nest entry (all_entries others) sorted.table seen is one enters flat covers may 0 seen.sibling sorted.siblings (omega arith) less good.fine;
            before = subst (AreBefore (see_all seen.sibling false (out_of_arm seen (leavings flow nest)) sorted.table)) (sym (as_long seen.sibling (record { node = seen.node; arm = seen.arm; nest = nest }) sorted.siblings))
                (all_before seen.sibling false (out_of_arm seen (leavings flow nest)) sorted.table (length sorted.siblings) good.before less);
          }

      put_sorted : IsSorted (all_entries others) (put flow may_go_inside left sorted nest)
      put_sorted = by_entry (only_entry (nest_entries nest)) refl
        where
          by_goes : (entry : ℕ) → only_entry (nest_entries nest) ≡ Some entry → (seen : Seen) → sorted.table entry ≡ Some seen → (goes : Bool) → (may_go_inside && goes_inside flow sorted nest seen) ≡ goes →
              IsSorted (all_entries others) (if goes then put_inside flow left sorted nest seen else put_behind flow left sorted nest)
          by_goes entry only seen is true goes =
              let inside = and_right may_go_inside (goes_inside flow sorted nest seen) goes in
              inside_sorted entry seen is
              (and_left seen.is_one (not (stays sorted seen)) (and_left (seen.is_one && not (stays sorted seen)) (sibling_holds flow (slice_get sorted.siblings seen.sibling) nest seen.is_direct) inside))
              (only_is (nest_entries nest) entry only) (and_left may_go_inside (goes_inside flow sorted nest seen) goes)
          by_goes entry only seen is false goes = behind_sorted

          by_seen : (entry : ℕ) → only_entry (nest_entries nest) ≡ Some entry → (found : Option Seen) → sorted.table entry ≡ found →
              IsSorted (all_entries others) (put_seen flow may_go_inside left sorted nest found)
          by_seen entry only None is = behind_sorted
          by_seen entry only (Some seen) is = by_goes entry only seen is (may_go_inside && goes_inside flow sorted nest seen) refl

          by_entry : (found : Option ℕ) → only_entry (nest_entries nest) ≡ found → IsSorted (all_entries others) (put_seen flow may_go_inside left sorted nest (seen_at sorted.table found))
          by_entry None only = behind_sorted
          by_entry (Some entry) only = by_seen entry only (sorted.table entry) refl

    -- what comes of a list
    pub record Comes (siblings : List Sibling) : Type 0 where
      pub table : Table
      pub fine : AllFine [] table 0 siblings

    all_put : (after : List ℕ) (nests : List Nest) (sorted : Sorted) → ListCovers nests → IsSorted (all_entries nests) sorted → Comes (put_all flow may_go_inside after sorted nests)
    all_put after [] sorted covers good = record { table = sorted.table; fine = good.fine }
    all_put after (nest ∷ others) sorted covers good =
        all_put after others (put flow may_go_inside (all_entries others ++ after) sorted nest) covers.2
        (put_sorted nest others (all_entries others ++ after) sorted covers.0 covers.1 good)

    pub list_comes : (after : List ℕ) (nests : List Nest) → ListCovers nests → Comes (put_all flow may_go_inside after nothing_sorted nests)
    list_comes after nests covers = all_put after nests nothing_sorted covers (record { fine = tt; before = λ to seen is. absurd cc })
