-- `write_rings` meets its contract. Each call has what it asks from those before it.
-- Assumes nothing.
use Rattle.rings.proofs.Writing.{write_order, write_groups, write_lay}
use Rattle.rings.proofs.Outputs.{write_done}
use Rattle.rings.proofs.write_rings.Goals as goal

pub order_rings-polygons-requires : goal.order_rings-polygons-requires
order_rings-polygons-requires c =
    write_order c.requires c.survey_rings.ensures

pub gather-requires : goal.gather-requires
gather-requires c =
    write_groups c.requires c.survey_rings.ensures c.order_rings-polygons.ensures

pub lay_out-requires : goal.lay_out-requires
lay_out-requires c =
    write_lay c.requires c.survey_rings.ensures c.order_rings-polygons.ensures

pub returns : goal.returns
returns c =
    write_done c.requires c.survey_rings.ensures c.order_rings-polygons.ensures c.lay_out.ensures c.gather.ensures c.clear.ensures c.answer.ensures
