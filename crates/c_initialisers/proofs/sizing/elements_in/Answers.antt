-- A list says as many elements as its row does.
use Rattle.std.proofs.Common.{Some, sym, ap, ◌∙◌}
use Rattle.c_file_rules.specs.Initialising.{elements_in}
use Rattle.c_initialisers.specs.Sized.{elements_of_list}
use Rattle.c_initialisers.proofs.Rows.{list_elements}
use Rattle.c_initialisers.proofs.sizing.elements_in.Goals as goal

pub returns-in_ok-elements_of_list-in-List : goal.returns-in_ok-elements_of_list-in-List
returns-in_ok-elements_of_list-in-List g c =
    let around = g.S.Surroundings.told c.args.scene.now.around.now in
    ap Some (c.in_ok-elements_of_list-in-List.ensures ∙ ap (elements_of_list around c.args.are_characters) c.as_slice.ensures)
    ∙ sym (list_elements around c.args.are_characters c.in-List.span c.in-List.list)
    ∙ ap (elements_in around c.args.are_characters) (sym c.in-List.is)
