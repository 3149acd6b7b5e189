use Rattle.std.proofs.Common.{◌∙◌}
use Rattle.work_text.proofs.WorkLines.{load_line, unload_line, query_line, query_file_line, no_query, no_command, is_empty, not_empty}
use Rattle.work_text.proofs.read_line.line_of.Goals as goal

pub returns-in-Some : goal.returns-in-Some
returns-in-Some c = load_line c.args.text.now c.in-Some.bytes.now c.named_line.result c.in-Some.ensures c.named_line.ensures

pub returns-in-Some-behind_unload : goal.returns-in-Some-behind_unload
returns-in-Some-behind_unload c =
    unload_line c.args.text.now c.in-Some-behind_unload.bytes.now c.named_line-in-Some-behind_unload.result c.in-Some-behind_unload.ensures
    c.named_line-in-Some-behind_unload.ensures

pub returns-in-Some-behind_queryfile : goal.returns-in-Some-behind_queryfile
returns-in-Some-behind_queryfile c =
    query_file_line c.args.text.now c.in-Some-behind_queryfile.bytes.now c.named_line-in-Some-behind_queryfile.result c.in-Some-behind_queryfile.ensures
    c.named_line-in-Some-behind_queryfile.ensures

pub returns-in_default-behind_query : goal.returns-in_default-behind_query
returns-in_default-behind_query c =
    no_command c.args.text.now c.in_default.ensures c.in_default-behind_unload.ensures c.in_default-behind_queryfile.ensures
    c.in_default-behind_query.ensures

pub returns-then-is_empty : goal.returns-then-is_empty
returns-then-is_empty c =
    no_query c.args.text.now c.in-Some-behind_query.query.now c.in-Some-behind_query.ensures
    (is_empty c.in-Some-behind_query.query.now c.is_empty.result c.if-is_empty.true c.is_empty.ensures)

pub returns : goal.returns
returns c =
    query_line c.args.text.now c.in-Some-behind_query.query.now c.of-query.result c.of_session_1.result c.in-Some-behind_query.ensures
    (not_empty c.in-Some-behind_query.query.now c.is_empty.result c.if-is_empty.false c.is_empty.ensures)
    (c.of-query.ensures ∙ (c.in_ok-from_slice.ensures).items) c.of_session_1.ensures
