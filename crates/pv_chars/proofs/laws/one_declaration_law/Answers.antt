use Rattle.pv_chars.proofs.DeclarationLemmas.{one_version, one_encoding, one_standalone, one_text_decl, one_xml_decl}
use Rattle.pv_chars.proofs.laws.one_declaration_law.Goals as goal

pub returns-clause-version : goal.returns-clause-version
returns-clause-version c = one_version

pub returns-clause-encoding : goal.returns-clause-encoding
returns-clause-encoding c = one_encoding

pub returns-clause-standalone : goal.returns-clause-standalone
returns-clause-standalone c = one_standalone

pub returns-clause-text : goal.returns-clause-text
returns-clause-text c = one_text_decl

pub returns-clause-xml : goal.returns-clause-xml
returns-clause-xml c = one_xml_decl
