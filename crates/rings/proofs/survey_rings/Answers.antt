-- `survey_rings` meets its contract. Each call has what it asks from those before it.
-- Assumes nothing.
use Rattle.rings.proofs.Surveys.{survey_list, survey_lay, survey_rings_groups, survey_done}
use Rattle.rings.proofs.survey_rings.Goals as goal

pub list_rings-requires : goal.list_rings-requires
list_rings-requires c =
    survey_list c.requires

pub lay_out-requires : goal.lay_out-requires
lay_out-requires c =
    survey_lay c.requires c.list_rings.ensures

pub ring_groups-requires : goal.ring_groups-requires
ring_groups-requires c =
    survey_rings_groups c.requires c.list_rings.ensures c.lay_out.ensures c.mark_groups.ensures

pub returns : goal.returns
returns c =
    survey_done c.requires c.list_rings.ensures c.lay_out.ensures c.mark_groups.ensures c.ring_groups.ensures c.clear.ensures c.clear-2.ensures
