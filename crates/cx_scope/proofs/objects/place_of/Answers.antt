use Rattle.std.proofs.Common.{rules, arith, refl, length, get_or}
use Rattle.std.proofs.lemmas.List.Sorted.{IsPartitionPoint-from_clause}
use Rattle.std.proofs.lemmas.Option.{slice_get_read}
use Rattle.cx_scope.proofs.Numbered.{is_below, partitioned, none_below, none_at}
use Rattle.cx_scope.proofs.objects.place_of.Goals as goal

pub returns-then-index-objects : goal.returns-then-index-objects
returns-then-index-objects c =
    let objects = c.args.objects.now in
    let index = c.partition_point-index in
    let point = IsPartitionPoint-from_clause (is_below c.args.number) _ _ index.ensures.partitioned (partitioned objects c.args.number c.requires) (λ a r q k. search rules) in
    none_below objects c.args.number index.result point (omega arith)

pub returns-then-objects-index : goal.returns-then-objects-index
returns-then-objects-index c =
    let objects = c.args.objects.now in
    let index = c.partition_point-index in
    let point = IsPartitionPoint-from_clause (is_below c.args.number) _ _ index.ensures.partitioned (partitioned objects c.args.number c.requires) (λ a r q k. search rules) in
    none_at objects c.args.number index.result _ c.requires point (omega arith) c.if-objects-index.true

pub returns : goal.returns
returns c = record {
  one = c.index-objects-index.result;
  is = slice_get_read c.args.objects.now (length c.args.objects.now) c.partition_point-index.result c.index-objects-index.result refl (search rules) c.index-objects-index.is;
  number_is = search rules;
}
