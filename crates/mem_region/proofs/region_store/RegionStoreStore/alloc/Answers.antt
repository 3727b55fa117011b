use Rattle.std.proofs.Common.{[], ◌∷◌, ◌++◌, ◌-◌, ◌∙◌, ap, refl, sym, subst, arith, ◌≤◌}
use Rattle.mem_region.proofs.Copying.{PutIn, full_bytes, full_blocks, alloc_made, whole_made, made_many}
use Rattle.mem_region.proofs.region_store.RegionStoreStore.alloc.Goals as goal

pub returns-then-left-size-clause-outcome : goal.returns-then-left-size-clause-outcome
returns-then-left-size-clause-outcome c =
    let store = c.self.inside in
    let left = ap (λ n. store.bytes - n) (c.len-start.ensures ∙ store.cells.ok.0) in
    (full_bytes store c.args.self.now c.args.size c.args.align _ c.self.invariant c.self.view_is left c.if-left-size.true, refl)

pub returns-then-len-self-clause-outcome : goal.returns-then-len-self-clause-outcome
returns-then-len-self-clause-outcome c =
    let store = c.self.inside in
    let left = ap (λ n. store.bytes - n) (c.len-start.ensures ∙ store.cells.ok.0) in
    let all = sym (c.len.ensures ∙ store.table.ok.0) ∙ c.if-len-self.true in
    (full_blocks store c.args.self.now c.args.size c.args.align _ c.self.invariant c.self.view_is left all, refl)

pub overflow_add-self : goal.overflow_add-self
overflow_add-self c =
    omega (arith, made_many c.self.inside c.args.self.now c.self.invariant c.self.view_is, c.requires.number)

pub push-requires : goal.push-requires
push-requires c =
    let store = c.self.inside in
    omega (arith, c.len.ensures, store.table.ok.0, c.self.invariant.blocks, c.self.invariant.blocks_room, c.if-len-self.false)

pub extend-requires : goal.extend-requires
extend-requires c =
    let store = c.self.inside in
    omega (arith, c.len-start.ensures, store.cells.ok.0, c.self.invariant.bytes, c.self.invariant.bytes_room, c.if-left-size.false)

put_in : (c : goal.After-extend) → PutIn c.self.inside c.args.size c.args.align c.push.new.table c.extend.new.held
put_in c =
    let store = c.self.inside in
    let long = c.len-start.ensures ∙ store.cells.ok.0 in
    record {
      entry = c.push.ensures.blocks ∙ ap (λ n. store.table.items ++ record { number = store.next; align = c.args.align; size = c.args.size; start = n } ∷ []) long;
      unset = c.extend.ensures.cells;
      bytes = subst (λ n. c.args.size ≤ store.bytes - n) long c.if-left-size.false;
      blocks = λ all. c.if-len-self.false (c.len.ensures ∙ store.table.ok.0 ∙ all);
      table_room = c.push.ensures.room;
      cells_room = c.extend.ensures.room;
    }

pub invariant_of-self : goal.invariant_of-self
invariant_of-self c = whole_made c.self.inside c.args.size c.args.align _ _ c.self.invariant (put_in c)

pub returns-clause-outcome : goal.returns-clause-outcome
returns-clause-outcome c = (
  sym (made_many c.self.inside c.args.self.now c.self.invariant c.self.view_is),
  alloc_made c.self.inside c.args.self.now c.args.size c.args.align c.push.new.table c.extend.new.held c.self.invariant c.self.view_is (put_in c),
)
