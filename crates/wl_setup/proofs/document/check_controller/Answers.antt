use Rattle.wl_setup.proofs.document.check_controller.Goals as goal

pub returns-in-Some : goal.returns-in-Some
returns-in-Some c = rw (← c.in-Some.ensures) c.check_controller_table.ensures
