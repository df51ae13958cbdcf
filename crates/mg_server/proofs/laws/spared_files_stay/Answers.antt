use Rattle.mg_server.proofs.Files.{parts_stay, quiet_file, spared_stay}
use Rattle.mg_server.proofs.laws.spared_files_stay.Goals as goal

pub returns-clause-documents : goal.returns-clause-documents
returns-clause-documents c = spared_stay

pub returns-clause-parts : goal.returns-clause-parts
returns-clause-parts c = parts_stay

pub returns-clause-quiet : goal.returns-clause-quiet
returns-clause-quiet c = quiet_file
