use Rattle.std.proofs.Common.{List, ap, map}
use Rattle.cx_core.specs.Views.{view_function, view_object}
use Rattle.whole_given.specs.Whole.{named}
use Rattle.whole_locals.proofs.Ordered.{wanted_are}
use Rattle.whole_locals.specs.Wanted.{view_wanted}
use Rattle.whole_locals.specs.declared.wanted.WantedLocal.{WantedLocal}
use Rattle.whole_locals.proofs.wanted.wanted_in.Goals as goal

pub returns : goal.returns
returns c =
    wanted_are (named c.args.whole.now).program (view_function c.args.fun.now) (map view_object c.args.objects.now) c.args.temporaries
    (map view_wanted c.new-wanted.result) (map view_wanted c.put_result.new.wanted) (map view_wanted c.put_params.new.wanted)
    (map view_wanted c.put_locals.new.wanted) (map view_wanted c.put_locals-2.new.wanted) (map view_wanted c.put_temporaries.new.wanted)
    c.in_ok-blocks.blocks c.as_slice-params.result.now (ap (λ (list : List WantedLocal). map view_wanted list) c.new-wanted.ensures) c.in_ok-blocks.ensures c.as_slice-params.ensures c.requires
    c.in_ok-put_result.ensures c.in_ok-put_params.ensures c.in_ok-put_locals.ensures c.in_ok-put_locals-2.ensures c.in_ok-put_temporaries.ensures
