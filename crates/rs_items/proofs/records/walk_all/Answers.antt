use Rattle.std.proofs.Common.{◌≡◌, ap, subst, sym, map, IfOk, Bool}
use Rattle.cx_core.specs.Views.{view_member}
use Rattle.rs_items.specs.Known.{Knows, known_in}
use Rattle.rs_items.specs.Records.{no_fields, placed_members, record_walk, struct_end, struct_walk, union_walk}
use Rattle.rs_items.specs.Walks.{view_walk}
use Rattle.rs_items.proofs.records.walk_all.Goals as goal

pub returns-then-is_union-clause-walk : goal.returns-then-is_union-clause-walk
returns-then-is_union-clause-walk c =
    let known = ap known_in c.begin_fields.ensures in
    let walked = subst (λ (know : Knows). IfOk c.walk_union.result (λ walk. view_walk c.walk_union.new.names.scopes.field_names walk ≡
    union_walk no_fields (placed_members know (map view_member c.args.members.now) c.args.spots.now))) known c.walk_union.ensures.walk in
    subst (λ (is_union : Bool). IfOk c.walk_union.result (λ walk. view_walk c.walk_union.new.names.scopes.field_names walk ≡
    record_walk is_union (placed_members (known_in c.args.names.now) (map view_member c.args.members.now) c.args.spots.now))) (sym c.if-is_union.true) walked

pub returns-else-is_union-clause-walk : goal.returns-else-is_union-clause-walk
returns-else-is_union-clause-walk c =
    let known = ap known_in c.begin_fields.ensures in
    let walked = subst (λ (know : Knows). IfOk c.walk_struct.result (λ walk. view_walk c.walk_struct.new.names.scopes.field_names walk ≡
    struct_end (struct_walk no_fields (placed_members know (map view_member c.args.members.now) c.args.spots.now)))) known c.walk_struct.ensures.walk in
    subst (λ (is_union : Bool). IfOk c.walk_struct.result (λ walk. view_walk c.walk_struct.new.names.scopes.field_names walk ≡
    record_walk is_union (placed_members (known_in c.args.names.now) (map view_member c.args.members.now) c.args.spots.now))) (sym c.if-is_union.false) walked
