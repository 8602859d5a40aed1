use Rattle.alb_table.proofs.tables.Tables.+basis_mono.Given as goal

abbrev pub decreases-basis_mono : goal.decreases-basis_mono
decreases-basis_mono l = l.b
