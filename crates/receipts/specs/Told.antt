-- A report of the code, as a report.
use Rattle.fate_chain.specs.Kinds.{final_of}
use Rattle.receipts.specs.Texts.{Report}
use Rattle.receipts.specs.declared.report.Report.{Report as Told}

abbrev pub report_of : Told → Report
report_of told = record {
  id = told.id;
  taken = told.taken.now;
  began = told.began;
  final = final_of told.last;
  error = told.error;
  ended = told.ended;
}
